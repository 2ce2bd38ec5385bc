use Rattle.std.proofs.Common.{◌∙◌, ap, map}
use Rattle.stark_support.specs.Claims.{claim_view}
use Rattle.stark_protocol.specs.OpenedClaims.{chunks_round, one_matrix, row_points}
use Rattle.stark_proof.specs.ProofView.{openings_view}
use Rattle.stark_verifier.proofs.ClaimSteps.{two_pushed}
use Rattle.stark_verifier.proofs.claims.opened_rounds.Goals as goal

pub returns : goal.returns
returns g c =
    let coset = g.D.PolynomialSpace.coset_of c.args.domain in
    let opened = openings_view c.args.opened.now in
    two_pushed (claim_view g.D.PolynomialSpace.coset_of) c.in_ok-claims.claims.items _ c.push-2.new.self.items _ _ _ _ _ c.in_ok-push.ensures.items c.in_ok-push-2.ensures.items c.in_ok-claims.ensures
    (c.in_ok-trace.ensures ∙ ap (one_matrix c.args.commitments.now.trace coset) (c.in_ok-points.ensures ∙ ap (λ row. row_points c.args.zeta c.args.next_zeta row opened.trace_next) c.as_slice-local.ensures.value))
    (c.in_ok-quotient.ensures ∙ ap (λ cs. chunks_round c.args.commitments.now.quotient_chunks coset c.args.zeta (map (λ chunk. chunk.items) cs)) c.as_slice-chunks.ensures.value)

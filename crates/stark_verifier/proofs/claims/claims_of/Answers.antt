use Rattle.std.proofs.Common.{◌∙◌, ap, option_map, Some}
use Rattle.stark_support.specs.Claims.{claim_view}
use Rattle.stark_protocol.specs.OpenedClaims.{preprocessed_rounds}
use Rattle.stark_proof.specs.ProofView.{openings_view, preprocessed_view}
use Rattle.stark_verifier.proofs.ClaimSteps.{none_behind, one_behind}
use Rattle.stark_verifier.proofs.claims.claims_of.Goals as goal

pub returns-in_ok-push-in-Some-preprocessed : goal.returns-in_ok-push-in-Some-preprocessed
returns-in_ok-push-in-Some-preprocessed g c =
    let coset = g.D.PolynomialSpace.coset_of c.args.domain in
    one_behind (claim_view g.D.PolynomialSpace.coset_of) c.in_ok-claims.claims.items c.push.new.self.items _ _ _ _ _ _ c.in_ok-push-in-Some-preprocessed.ensures.items c.in_ok-claims.ensures c.in_ok-preprocessed-in-Some-preprocessed.ensures
    (ap (λ k. preprocessed_rounds coset c.args.zeta c.args.next_zeta (option_map (λ k. k.now) k) (openings_view c.args.proof.now.opened_values).preprocessed) c.in-Some.is ∙
    ap (λ rows. preprocessed_rounds coset c.args.zeta c.args.next_zeta (Some c.in-Some.key.now) (option_map preprocessed_view rows)) c.in-Some-preprocessed.is)

pub returns-in-None-preprocessed : goal.returns-in-None-preprocessed
returns-in-None-preprocessed g c =
    let coset = g.D.PolynomialSpace.coset_of c.args.domain in
    none_behind (claim_view g.D.PolynomialSpace.coset_of) _ _ _ _ _ c.in_ok-claims.ensures
    (ap (λ k. preprocessed_rounds coset c.args.zeta c.args.next_zeta (option_map (λ k. k.now) k) (openings_view c.args.proof.now.opened_values).preprocessed) c.in-Some.is ∙
    ap (λ rows. preprocessed_rounds coset c.args.zeta c.args.next_zeta (Some c.in-Some.key.now) (option_map preprocessed_view rows)) c.in-None-preprocessed.is)

pub returns-in-None : goal.returns-in-None
returns-in-None g c =
    none_behind (claim_view g.D.PolynomialSpace.coset_of) _ _ _ _ _ c.in_ok-claims.ensures
    (ap (λ k. preprocessed_rounds (g.D.PolynomialSpace.coset_of c.args.domain) c.args.zeta c.args.next_zeta (option_map (λ k. k.now) k) (openings_view c.args.proof.now.opened_values).preprocessed) c.in-None.is)

use Rattle.std.proofs.Common.{◌≡◌, ◌∙◌, ap, length, map, sym}
use Rattle.std.proofs.lemmas.List.{length-map}
use Rattle.stark_support.specs.Sponge.{observed_all}
use Rattle.stark_fri.specs.Claims.{matrix_seen}
use Rattle.stark_fri.specs.Transcript.{observed_matrix, observed_number}
use Rattle.stark_fri.proofs.ObserveSteps.{all_observed, one_more_observed}
use Rattle.stark_fri.proofs.transcript.observe_round.Invariants.{calls_of}
use Rattle.stark_fri.proofs.transcript.observe_round.Goals as goal

pub loop-matrix-init : goal.loop-matrix-init
loop-matrix-init g c =
    let calls = calls_of g in
    let seen = matrix_seen g.D.PolynomialSpace.coset_of in
    let claim = c.args.claim.now in
    let count : c.len.result ≡ length (map seen claim.1.items) = c.len.ensures ∙ claim.1.ok.0 ∙ sym (length-map claim.1.items seen) in
    ap (λ t. observed_all (observed_matrix calls) (map seen t) c.observe.new.self) c.deref-matrix-items.ensures.value
    ∙ ap (observed_all (observed_matrix calls) (map seen claim.1.items))
    (c.observe.ensures ∙ ap (λ s. calls.observe_root s claim.0.now) (c.observe_number.ensures ∙ ap (observed_number calls c.args.challenger.now) count))

pub loop-matrix-preserved : goal.loop-matrix-preserved
loop-matrix-preserved g c =
    one_more_observed (matrix_seen g.D.PolynomialSpace.coset_of) (observed_matrix (calls_of g)) c.deref-matrix-items.result.now c.loop-matrix.matrix-index c.matrix-item.result
    c.loop-matrix.challenger c.observe_matrix.new.challenger _ c.loop-matrix-test.true c.matrix-item.is c.observe_matrix.ensures c.loop-matrix.invariant

pub returns : goal.returns
returns g c =
    all_observed (matrix_seen g.D.PolynomialSpace.coset_of) (observed_matrix (calls_of g)) c.deref-matrix-items.result.now c.loop-matrix.matrix-index
    c.loop-matrix.challenger _ c.loop-matrix-test.false c.loop-matrix.invariant

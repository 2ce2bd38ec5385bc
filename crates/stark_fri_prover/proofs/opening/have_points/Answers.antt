use Rattle.std.proofs.Common.{◌≡◌, ◌∙◌, ap, length, sym}
use Rattle.std.proofs.lemmas.Bool.{false≢true}
use Rattle.std.proofs.lemmas.List.{length-map}
use Rattle.stark_support.proofs.Loops.{left_end, left_step, left_stop, refuted, shown}
use Rattle.stark_support.specs.Claims.{round_view}
use Rattle.stark_fri_prover.proofs.opening.have_points.Goals as goal

pub returns-then-not-has_points : goal.returns-then-not-has_points
returns-then-not-has_points g c =
    refuted (left_stop round_view (λ r. length r.1 ≡ length r.0.matrices.items) c.args.rounds.now c.loop-round.round-index c.round-item.result c.loop-round-test.true c.round-item.is
    (λ same. false≢true (sym c.if-not-has_points.true ∙ c.has_points.ensures.1 (ap length c.deref.ensures.value ∙ sym (length-map c.round-item.result.1.items (λ p. p.items)) ∙ same))) c.loop-round.invariant)

pub loop-round-preserved : goal.loop-round-preserved
loop-round-preserved g c =
    left_step round_view (λ r. length r.1 ≡ length r.0.matrices.items) c.args.rounds.now c.loop-round.round-index c.round-item.result c.loop-round-test.true c.round-item.is
    (length-map c.round-item.result.1.items (λ p. p.items) ∙ sym (ap length c.deref.ensures.value) ∙ c.has_points.ensures.0 c.if-not-has_points.false) c.loop-round.invariant

pub returns : goal.returns
returns g c = shown (left_end round_view (λ r. length r.1 ≡ length r.0.matrices.items) c.args.rounds.now c.loop-round.round-index c.loop-round-test.false c.loop-round.invariant)

use Rattle.std.proofs.Common.{◌≡◌, ◌≢◌, ◌∙◌, ◌+◌, ap, arith, false, inl, inr, sym}
use Rattle.std.proofs.lemmas.Bool.Decides.{eqb_tells}
use Rattle.stark_bench.specs.Challenges.{after_trial, passes_after}
use Rattle.stark_bench.proofs.challenger.trials.first_of_eight.Goals as goal

pub loop-lane-preserved : goal.loop-lane-preserved
loop-lane-preserved c j low =
    let lane = c.loop-lane.lane in
    let bits = c.args.bits in
    let start = c.args.state.now in
    let here : passes_after (after_trial start (c.args.first + lane)) bits ≡ false
    = ap (λ n. passes_after (after_trial start (n + lane)) bits) (sym c.from.ensures)
    ∙ ap (λ s. passes_after s bits) (sym (c.after_trials-states.ensures lane c.loop-lane-test.true))
    ∙ sym c.passes_after.ensures ∙ c.if-passes_after.false in
    elim (eqb_tells j lane) [
      | inl w ↦ ap (λ n. passes_after (after_trial start (c.args.first + n)) bits) w.1 ∙ here
      | inr w ↦ let other : j ≢ lane = w.1 in c.loop-lane.invariant j (omega arith)
    ]

use Rattle.std.proofs.Common.{◌∙◌, refl, sym, rules}
use Rattle.stark_protocol.proofs.Carried.{carried}
use Rattle.stark_verifier.proofs.Verdicts.{openings_refused, point_refused, replay_refused}
use Rattle.stark_verifier.proofs.transcript.replay.Goals as goal

pub returns-in_err-alpha-clause-fault : goal.returns-in_err-alpha-clause-fault
returns-in_err-alpha-clause-fault g c = carried _ _ _ c.from_residual.ensures (replay_refused (sym c.draw_challenges.ensures.answer ∙ c.in_err-alpha.was) refl)

pub returns-in_err-periodic_values-clause-fault : goal.returns-in_err-periodic_values-clause-fault
returns-in_err-periodic_values-clause-fault g c =
    carried _ _ _ c.from_residual-in_err-periodic_values.ensures (point_refused (sym c.draw_challenges.ensures.answer ∙ c.in_ok-alpha.was) c.in_err-periodic_values.ensures.fault)

pub returns-in_err-check_openings-clause-fault : goal.returns-in_err-check_openings-clause-fault
returns-in_err-check_openings-clause-fault g c =
    let sampled = c.in_ok-periodic_values.ensures.sampled in
    carried _ _ _ c.from_residual-in_err-check_openings.ensures
    (openings_refused (sym c.draw_challenges.ensures.answer ∙ c.in_ok-alpha.was) sampled.outside sampled.fitting c.draw_challenges.ensures.state c.in_err-check_openings.ensures.verdict.fault)

pub returns-clause-holds : goal.returns-clause-holds
returns-clause-holds g c =
    let sampled = c.in_ok-periodic_values.ensures.sampled in
    record { drawn = search rules; outside = sampled.outside; fitting = sampled.fitting; opened = search rules }

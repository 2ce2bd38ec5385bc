use Rattle.std.proofs.Common.{inr}
use Rattle.stark_prover.proofs.BindSteps.{alpha_work_refused, bound_of, quotient_made, refused_quotient, refused_randomization}
use Rattle.stark_prover.proofs.PartsSteps.{bound_made, randomization_of}
use Rattle.stark_protocol.proofs.Carried.{carried}
use Rattle.stark_prover.proofs.prover.bind_quotient.Goals as goal

pub returns-in_err-alpha-clause-fault : goal.returns-in_err-alpha-clause-fault
returns-in_err-alpha-clause-fault g c =
    carried _ _ _ c.from_residual.ensures (λ trace columns preprocessed ready.
    inr (alpha_work_refused ready _ _ _ c.requires.seeded.described c.requires.seeded.seeded c.commitment_of-preprocessed.ensures c.in_err-alpha.field-0.0 c.in_err-alpha.ensures.exhausted))

pub returns-in_err-quotient-clause-fault : goal.returns-in_err-quotient-clause-fault
returns-in_err-quotient-clause-fault g c =
    let drawn = c.in_ok-alpha in
    carried _ _ _ c.from_residual-in_err-quotient.ensures (λ trace columns preprocessed ready.
    refused_quotient (bound_of ready _ _ _ c.requires.seeded.described c.requires.seeded.seeded c.commitment_of-preprocessed.ensures _ drawn.alpha _ drawn.ensures.drawn drawn.ensures.answer drawn.ensures.state drawn.ensures.no_work) _
    (c.in_err-quotient.ensures.fault trace columns preprocessed ready))

pub returns-in_err-random-clause-fault : goal.returns-in_err-random-clause-fault
returns-in_err-random-clause-fault g c =
    let drawn = c.in_ok-alpha in
    carried _ _ _ c.from_residual-in_err-random.ensures (λ trace columns preprocessed ready.
    refused_randomization (quotient_made (bound_of ready _ _ _ c.requires.seeded.described c.requires.seeded.seeded c.commitment_of-preprocessed.ensures _ drawn.alpha _ drawn.ensures.drawn drawn.ensures.answer drawn.ensures.state drawn.ensures.no_work)
    (c.in_ok-quotient.ensures.stands trace columns preprocessed ready)).1 _ c.in_err-random.ensures.fault)

pub returns-clause-bound : goal.returns-clause-bound
returns-clause-bound g c = λ trace columns preprocessed ready.
    let drawn = c.in_ok-alpha in
    bound_made (quotient_made (bound_of ready _ _ _ c.requires.seeded.described c.requires.seeded.seeded c.commitment_of-preprocessed.ensures _ drawn.alpha _ drawn.ensures.drawn drawn.ensures.answer drawn.ensures.state drawn.ensures.no_work)
    (c.in_ok-quotient.ensures.stands trace columns preprocessed ready)) (randomization_of _ c.in_ok-random.ensures.there c.in_ok-random.ensures.stands)

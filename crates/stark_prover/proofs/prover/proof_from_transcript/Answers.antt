use Rattle.std.proofs.Common.{◌∙◌}
use Rattle.stark_protocol.proofs.Carried.{carried}
use Rattle.stark_prover.proofs.PartsSteps.{proof_by_view, random_clear, random_where_masked}
use Rattle.stark_prover.proofs.prover.proof_from_transcript.Goals as goal

pub returns-in_err-bound-clause-fault : goal.returns-in_err-bound-clause-fault
returns-in_err-bound-clause-fault g c = carried _ _ _ c.from_residual.ensures c.in_err-bound.ensures.fault

pub open_at_zeta-requires-clause-there : goal.open_at_zeta-requires-clause-there
open_at_zeta-requires-clause-there g c =
    let committed = c.requires.committed in
    random_clear _ _ (c.in_ok-bound.ensures.shape ∙ c.requires.seeded.described) (random_where_masked _ (c.in_ok-bound.ensures.bound committed.trace committed.columns committed.preprocessed committed.ready).randomization)

pub open_at_zeta-requires-clause-described : goal.open_at_zeta-requires-clause-described
open_at_zeta-requires-clause-described g c = c.in_ok-bound.ensures.shape ∙ c.requires.seeded.described

pub returns-in_err-opened-clause-fault : goal.returns-in_err-opened-clause-fault
returns-in_err-opened-clause-fault g c = carried _ _ _ c.from_residual-in_err-opened.ensures c.in_err-opened.ensures.fault

pub returns-clause-made : goal.returns-clause-made
returns-clause-made g c = λ trace columns preprocessed ready. proof_by_view c.proof_of.ensures (c.in_ok-opened.ensures.made trace columns preprocessed ready)

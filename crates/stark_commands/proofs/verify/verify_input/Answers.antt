use Rattle.stark_commands.proofs.VerdictSteps.{verified_read}
use Rattle.stark_commands.proofs.verify.verify_input.Goals as goal

pub returns-in-Ok : goal.returns-in-Ok
returns-in-Ok g c = verified_read _ _ _ _ _ _ _ _ _ _ _ _ _ _ _ c.in-Ok.ensures.reads c.deref.ensures.value c.verify_by.ensures

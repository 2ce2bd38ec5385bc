use Rattle.stark_commands.proofs.Sizes.{found_for_sample}
use Rattle.stark_commands.proofs.check.check_sample.Goals as goal

pub returns-in-Ok : goal.returns-in-Ok
returns-in-Ok c = found_for_sample _ c.args.air c.args.bytes.now _ c.in-Ok.ensures.declared c.check_air.ensures

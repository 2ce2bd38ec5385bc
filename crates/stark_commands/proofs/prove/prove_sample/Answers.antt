use Rattle.stark_commands.proofs.Proved.{proved_for_sample}
use Rattle.stark_commands.proofs.prove.prove_sample.Goals as goal

pub returns-in-Ok : goal.returns-in-Ok
returns-in-Ok c = proved_for_sample _ _ _ _ _ _ _ _ c.args.air _ _ c.in-Ok.ensures.declared c.prove_input.ensures

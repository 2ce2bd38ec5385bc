use Rattle.std.proofs.Common.{arith}
use Rattle.std.proofs.lemmas.Grind.{common_steps}
use Rattle.stark_air.proofs.sub_builder.eval_on_columns.Goals as goal

pub returns : goal.returns
returns c = grind (arith, common_steps)

use Rattle.std.proofs.Common.{rules}
use Rattle.stark_samples.proofs.small.SmallAirAir.eval.Goals as goal

pub returns-in-Mixed : goal.returns-in-Mixed
returns-in-Mixed g c = search rules

pub returns-in-Zeros : goal.returns-in-Zeros
returns-in-Zeros g c = search rules

pub returns-in-Nothing : goal.returns-in-Nothing
returns-in-Nothing g c = search rules

pub returns-in-FirstRow : goal.returns-in-FirstRow
returns-in-FirstRow g c = search rules

use Rattle.std.proofs.Common.{rules}
use Rattle.stark_samples.proofs.periodic.PeriodicAir.new.Goals as goal

pub returns : goal.returns
returns g c = search rules

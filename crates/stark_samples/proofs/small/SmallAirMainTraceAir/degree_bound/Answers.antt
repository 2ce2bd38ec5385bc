use Rattle.std.proofs.Common.{rules}
use Rattle.stark_samples.proofs.small.SmallAirMainTraceAir.degree_bound.Goals as goal

pub returns : goal.returns
returns g c = search rules

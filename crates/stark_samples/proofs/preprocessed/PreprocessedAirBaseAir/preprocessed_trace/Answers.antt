use Rattle.std.proofs.Common.{rules}
use Rattle.stark_samples.proofs.preprocessed.PreprocessedAirBaseAir.preprocessed_trace.Goals as goal

pub returns : goal.returns
returns g c = search rules

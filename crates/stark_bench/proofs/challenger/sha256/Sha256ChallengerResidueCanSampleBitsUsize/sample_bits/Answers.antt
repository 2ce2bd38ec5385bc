use Rattle.std.proofs.Common.{rules}
use Rattle.stark_bench.proofs.challenger.sha256.Sha256ChallengerResidueCanSampleBitsUsize.sample_bits.Goals as goal

pub returns : goal.returns
returns c = search rules

use Rattle.std.proofs.Common.{rules}
use Rattle.stark_parts.proofs.config.StarkConfig.with_constraint_proof_of_work_bits.Goals as goal

pub returns : goal.returns
returns g c = search rules

use Rattle.std.proofs.Common.{rules}
use Rattle.stark_parts.proofs.config.StarkGenericConfig.is_zk.Goals as goal

pub returns-then-ZK : goal.returns-then-ZK
returns-then-ZK g c = search rules

pub returns-else-ZK : goal.returns-else-ZK
returns-else-ZK g c = search rules

use Rattle.std.proofs.Common.{rules}
use Rattle.stark_support.proofs.periodic_table.PeriodicLdeTable.is_empty.Goals as goal

pub returns : goal.returns
returns g c = search rules

use Rattle.std.proofs.Common.{rules}
use Rattle.stark_quotient.proofs.quotient.periodic_table.Goals as goal

pub returns : goal.returns
returns g c = search rules

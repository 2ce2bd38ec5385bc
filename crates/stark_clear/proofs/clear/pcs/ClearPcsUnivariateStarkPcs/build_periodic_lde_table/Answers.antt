use Rattle.std.proofs.Common.{rules}
use Rattle.stark_clear.proofs.clear.pcs.ClearPcsUnivariateStarkPcs.build_periodic_lde_table.Goals as goal

pub returns : goal.returns
returns g c = search rules

pub returns-in_err-table : goal.returns-in_err-table
returns-in_err-table g c = search rules

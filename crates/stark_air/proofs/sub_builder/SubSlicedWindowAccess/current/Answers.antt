use Rattle.std.proofs.Common.{rules}
use Rattle.stark_air.proofs.sub_builder.SubSlicedWindowAccess.current.Goals as goal

pub returns : goal.returns
returns g c = search rules

pub returns-in_err-column : goal.returns-in_err-column
returns-in_err-column g c = search rules

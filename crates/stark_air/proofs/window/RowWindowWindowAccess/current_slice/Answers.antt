use Rattle.std.proofs.Common.{rules}
use Rattle.stark_air.proofs.window.RowWindowWindowAccess.current_slice.Goals as goal

pub returns : goal.returns
returns g c = search rules

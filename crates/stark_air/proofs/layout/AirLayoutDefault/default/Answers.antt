use Rattle.std.proofs.Common.{rules}
use Rattle.stark_air.proofs.layout.AirLayoutDefault.default.Goals as goal

pub returns : goal.returns
returns c = search rules

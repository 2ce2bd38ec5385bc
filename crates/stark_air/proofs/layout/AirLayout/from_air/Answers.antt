use Rattle.std.proofs.Common.{rules}
use Rattle.stark_air.proofs.layout.AirLayout.from_air.Goals as goal

pub returns : goal.returns
returns c = search rules

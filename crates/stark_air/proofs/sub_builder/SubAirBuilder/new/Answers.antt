use Rattle.std.proofs.Common.{rules}
use Rattle.stark_air.proofs.sub_builder.SubAirBuilder.new.Goals as goal

pub returns : goal.returns
returns c = search rules

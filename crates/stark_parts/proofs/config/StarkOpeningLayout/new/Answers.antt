use Rattle.std.proofs.Common.{rules}
use Rattle.stark_parts.proofs.config.StarkOpeningLayout.new.Goals as goal

pub returns : goal.returns
returns c = search rules

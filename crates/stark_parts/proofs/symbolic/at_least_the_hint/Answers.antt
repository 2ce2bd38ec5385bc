use Rattle.std.proofs.Common.{rules}
use Rattle.stark_parts.proofs.symbolic.at_least_the_hint.Goals as goal

pub returns : goal.returns
returns g c = search rules

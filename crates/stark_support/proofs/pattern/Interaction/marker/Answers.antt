use Rattle.std.proofs.Common.{rules}
use Rattle.stark_support.proofs.pattern.Interaction.marker.Goals as goal

pub returns : goal.returns
returns c = search rules

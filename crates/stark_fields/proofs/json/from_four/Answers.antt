use Rattle.std.proofs.Common.{rules}
use Rattle.stark_fields.proofs.json.from_four.Goals as goal

pub returns-in-len4 : goal.returns-in-len4
returns-in-len4 g c = search rules

pub returns-in_default : goal.returns-in_default
returns-in_default g c = search rules

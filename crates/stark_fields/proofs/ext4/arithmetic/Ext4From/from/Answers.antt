use Rattle.std.proofs.Common.{rules}
use Rattle.stark_fields.proofs.ext4.arithmetic.Ext4From.from.Goals as goal

pub returns : goal.returns
returns g c = search rules

use Rattle.std.proofs.Common.{sym}
use Rattle.stark_fields.specs.Ext4Field.{combined}
use Rattle.stark_fields.proofs.ext4.arithmetic.from_coordinates.Goals as goal

pub returns : goal.returns
returns g c = sym (combined g.met.F.Field.field_laws.of_ring g.F.QuarticBase.QUARTIC_CONSTANT c.args.c0 c.args.c1 c.args.c2 c.args.c3)

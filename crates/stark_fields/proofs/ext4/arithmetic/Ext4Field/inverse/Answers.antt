use Rattle.std.proofs.Common.{sym, ◌∙◌}
use Rattle.stark_fields.specs.Ext4Field.{norm_not_zero}
use Rattle.stark_fields.proofs.ext4.arithmetic.Ext4Field.inverse.Goals as goal

pub inverse-requires : goal.inverse-requires
inverse-requires g c = λ h. norm_not_zero g.met.F.Field.field_laws g.F.QuarticBase.QUARTIC_CONSTANT g.met.F.QuarticBase.quartic_constant c.args.self c.requires (sym c.norm.ensures ∙ h)

use Rattle.std.proofs.Common.{◌∙◌}
use Rattle.stark_commands.proofs.Parts.{compared}
use Rattle.stark_commands.proofs.point.vanishes_at.Goals as goal

pub returns : goal.returns
returns g c =
    compared g.EF.PartialEq.eq g.met.EF.Field.eq_same g.met.EF.Eq.laws.refl _ _ _ _ _ c.eq.ensures c.vanishing_poly_at_point.ensures (c.ZERO.ensures ∙ g.met.EF.Field.zero_is)

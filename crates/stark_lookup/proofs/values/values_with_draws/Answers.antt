use Rattle.std.proofs.Common.{◌*◌, ◌<◌, arith, subst, sym}
use Rattle.stark_lookup.proofs.values.values_with_draws.Goals as goal

pub flatten_to_base-requires : goal.flatten_to_base-requires
flatten_to_base-requires g c = subst (λ w. w * g.EF.ExtensionField.DIMENSION < 18446744073709551616) (sym c.new.ensures.width) (omega arith)

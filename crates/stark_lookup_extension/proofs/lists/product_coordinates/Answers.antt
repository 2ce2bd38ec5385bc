use Rattle.std.proofs.Common.{subst}
use Rattle.stark_lookup_air.specs.LookupConstraints.{light_trees}
use Rattle.stark_lookup_extension.specs.Written.{WritesCombination}
use Rattle.stark_lookup_extension.proofs.EquationSteps.{product_steps}
use Rattle.stark_lookup_extension.proofs.Folding.{mapped_ok}
use Rattle.stark_lookup_extension.proofs.lists.product_coordinates.Goals as goal

pub returns : goal.returns
returns g c = mapped_ok _ _ c.combination.result c.combination.ensures (λ all made same.
    product_steps (light_trees same g.F.Field.ring) c.args.list.now c.combinations.new.list c.combination.new.list c.args.table.now c.in_ok-rows.rows.items c.args.xs.now c.args.ys.now all.items (c.in_ok-rows.ensures same)
    (subst (λ rows. WritesCombination g.F.Field.ring c.combinations.new.list c.args.xs.now rows all.items c.combination.new.list) c.deref.ensures.value made same))

use Rattle.std.proofs.Common.{subst}
use Rattle.stark_lookup_air.specs.LookupConstraints.{light_trees}
use Rattle.stark_lookup_extension.specs.Written.{WritesSums}
use Rattle.stark_lookup_extension.proofs.EquationSteps.{difference_steps}
use Rattle.stark_lookup_extension.proofs.Folding.{mapped_ok}
use Rattle.stark_lookup_extension.proofs.lists.difference.Goals as goal

pub returns : goal.returns
returns g c = mapped_ok _ _ c.sums.result c.sums.ensures (λ all made same.
    difference_steps (light_trees same g.F.Field.ring) c.args.list.now c.opposites.new.list c.sums.new.list c.args.xs.now c.args.ys.now c.in_ok-minus.minus.items all.items (c.in_ok-minus.ensures same)
    (subst (λ ys. WritesSums g.F.Field.ring c.opposites.new.list c.args.xs.now ys all.items c.sums.new.list) c.deref.ensures.value made same))

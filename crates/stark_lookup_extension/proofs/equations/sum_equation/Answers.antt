use Rattle.std.proofs.Common.{subst}
use Rattle.stark_lookup_air.specs.LookupConstraints.{light_trees}
use Rattle.stark_lookup_extension.specs.Written.{WritesDifference, WritesSums}
use Rattle.stark_lookup_extension.specs.WrittenEquations.{WritesTotal}
use Rattle.stark_lookup_extension.proofs.EquationSteps.{sum_steps}
use Rattle.stark_lookup_extension.proofs.Folding.{mapped_ok}
use Rattle.stark_lookup_extension.proofs.equations.sum_equation.Goals as goal

pub returns : goal.returns
returns g c = mapped_ok _ _ c.difference.result c.difference.ensures (λ all made same.
    let a = c.args.auxiliary.now in
    let added = c.in_ok-added.added.items in
    let after = c.in_ok-after.after.items in
    let b1 = c.lists_sum.new.list in
    let b2 = c.sums.new.list in
    let b3 = c.difference.new.list in
    sum_steps (light_trees same g.F.Field.ring) c.args.list.now b1 b2 b3 a added after all.items (subst (λ rows. WritesTotal g.F.Field.ring c.args.list.now rows added b1) c.deref.ensures.value c.in_ok-added.ensures same)
    (subst (λ xs. WritesSums g.F.Field.ring b1 xs added after b2) c.deref-2.ensures.value (subst (λ ys. WritesSums g.F.Field.ring b1 c.deref-2.result.now ys after b2) c.deref-3.ensures.value c.in_ok-after.ensures) same)
    (subst (λ xs. WritesDifference g.F.Field.ring b2 xs after all.items b3) c.deref-4.ensures.value (subst (λ ys. WritesDifference g.F.Field.ring b2 c.deref-4.result.now ys all.items b3) c.deref-5.ensures.value made) same))

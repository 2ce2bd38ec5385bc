use Rattle.std.proofs.Common.{subst}
use Rattle.stark_lookup_air.specs.LookupConstraints.{light_trees}
use Rattle.stark_lookup_extension.specs.Written.{WritesCoordinates, WritesDifference}
use Rattle.stark_lookup_extension.specs.WrittenEquations.{WritesFraction}
use Rattle.stark_lookup_extension.proofs.EquationSteps.{equation_steps}
use Rattle.stark_lookup_extension.proofs.Folding.{mapped_ok}
use Rattle.stark_lookup_extension.proofs.equations.helper_equation.Goals as goal

pub returns : goal.returns
returns g c = mapped_ok _ _ c.difference.result c.difference.ensures (λ all made same.
    let fraction = c.in_ok-fraction.fraction in
    let product = c.in_ok-product.product.items in
    let b1 = c.group_fraction.new.list in
    let b2 = c.product_coordinates.new.list in
    let b3 = c.difference.new.list in
    equation_steps (light_trees same g.F.Field.ring) c.args.draws.now c.args.list.now b1 b2 b3 c.args.group.now c.args.helper.now product all.items fraction (c.in_ok-fraction.ensures same)
    (subst (λ t. WritesCoordinates g.F.Field.ring b1 t c.args.helper.now fraction.denominator.items product b2) c.deref.ensures.value
    (subst (λ ys. WritesCoordinates g.F.Field.ring b1 c.deref.result.now c.args.helper.now ys product b2) c.deref-2.ensures.value c.in_ok-product.ensures) same)
    (subst (λ xs. WritesDifference g.F.Field.ring b2 xs fraction.numerator.items all.items b3) c.deref-3.ensures.value
    (subst (λ ys. WritesDifference g.F.Field.ring b2 c.deref-3.result.now ys all.items b3) c.deref-4.ensures.value made) same))

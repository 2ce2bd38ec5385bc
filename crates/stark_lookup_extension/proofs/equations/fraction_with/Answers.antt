use Rattle.std.proofs.Common.{subst}
use Rattle.stark_lookup_air.specs.LookupConstraints.{light_trees}
use Rattle.stark_lookup_extension.specs.Written.{WritesCoordinates, WritesScaled, WritesSums}
use Rattle.stark_lookup_extension.specs.WrittenEquations.{WritesGap}
use Rattle.stark_lookup_extension.proofs.EquationSteps.{fraction_steps}
use Rattle.stark_lookup_extension.proofs.equations.fraction_with.Goals as goal

pub returns : goal.returns
returns g c same =
    let entry = c.args.entry.now in
    let rest = c.args.rest.now in
    let apart = c.in_ok-apart.apart.items in
    let own = c.in_ok-own.own.items in
    let others = c.in_ok-others.others.items in
    let above = c.in_ok-numerator.numerator.items in
    let below = c.in_ok-denominator.denominator.items in
    let b1 = c.gap.new.list in
    let b2 = c.scaled.new.list in
    let b3 = c.product_coordinates.new.list in
    let b4 = c.sums.new.list in
    let b5 = c.product_coordinates-2.new.list in
    let table = c.args.draws.now.table.items in
    fraction_steps (light_trees same g.F.Field.ring) c.args.draws.now c.args.list.now b1 b2 b3 b4 b5 entry rest (record { denominator = c.in_ok-denominator.denominator; numerator = c.in_ok-numerator.numerator }) apart own others
    (subst (λ xs. WritesGap g.F.Field.ring c.args.list.now c.args.draws.now xs apart b1) c.deref.ensures.value c.in_ok-apart.ensures same)
    (subst (λ xs. WritesScaled g.F.Field.ring b1 entry.multiplicity xs own b2) c.deref-2.ensures.value c.in_ok-own.ensures same)
    (subst (λ t. WritesCoordinates g.F.Field.ring b2 t apart rest.numerator.items others b3) c.deref-3.ensures.value
    (subst (λ xs. WritesCoordinates g.F.Field.ring b2 c.deref-3.result.now xs rest.numerator.items others b3) c.deref-4.ensures.value
    (subst (λ ys. WritesCoordinates g.F.Field.ring b2 c.deref-3.result.now c.deref-4.result.now ys others b3) c.deref-5.ensures.value c.in_ok-others.ensures)) same)
    (subst (λ xs. WritesSums g.F.Field.ring b3 xs others above b4) c.deref-6.ensures.value
    (subst (λ ys. WritesSums g.F.Field.ring b3 c.deref-6.result.now ys above b4) c.deref-7.ensures.value c.in_ok-numerator.ensures) same)
    (subst (λ t. WritesCoordinates g.F.Field.ring b4 t apart rest.denominator.items below b5) c.deref-8.ensures.value
    (subst (λ xs. WritesCoordinates g.F.Field.ring b4 c.deref-8.result.now xs rest.denominator.items below b5) c.deref-9.ensures.value
    (subst (λ ys. WritesCoordinates g.F.Field.ring b4 c.deref-8.result.now c.deref-9.result.now ys below b5) c.deref-10.ensures.value c.in_ok-denominator.ensures)) same)

use Rattle.std.proofs.Common.{◌≡◌, ◌++◌, rules, subst}
use Rattle.stark_lookup_air.specs.LookupConstraints.{light_trees}
use Rattle.stark_lookup_extension.specs.WrittenEquations.{WritesHelpers}
use Rattle.stark_lookup_extension.proofs.EquationSteps.{row_steps}
use Rattle.stark_lookup_extension.proofs.equations.row_equations.Goals as goal

pub returns : goal.returns
returns g c same =
    let helpers = c.args.auxiliary.now.helpers.items in
    let first = c.in_ok-all.all.items in
    let last = c.in_ok-last.last.items in
    row_steps (light_trees same g.F.Field.ring) c.args.draws.now c.args.list.now c.helper_equations.new.list c.sum_equation.new.list c.args.groups.now c.args.auxiliary.now first last _ (search rules)
    (subst (λ hs. WritesHelpers g.F.Field.ring c.args.list.now c.args.draws.now c.args.groups.now hs first c.helper_equations.new.list) c.deref.ensures.value c.in_ok-all.ensures same) (c.in_ok-last.ensures same)

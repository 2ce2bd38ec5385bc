use Rattle.std.proofs.Common.{◌≡◌, ◌++◌, arith, length, refl, rules, subst, ap, ◌∙◌}
use Rattle.std.proofs.lemmas.Option.{slice_get-get_or, slice_get_read}
use Rattle.stark_lookup_air.specs.LookupConstraints.{light_trees}
use Rattle.stark_lookup_extension.specs.WrittenEquations.{WritesEquation}
use Rattle.stark_lookup_extension.proofs.EquationSteps.{equated_all, equated_none, equated_one}
use Rattle.stark_lookup_extension.proofs.equations.helper_equations.Goals as goal

pub loop-index-init : goal.loop-index-init
loop-index-init g c same = equated_none (light_trees same g.F.Field.ring) c.args.draws.now c.args.groups.now c.args.helpers.now c.args.list.now _ (search rules)

pub loop-index-preserved : goal.loop-index-preserved
loop-index-preserved g c same =
    let i = c.loop-index.index in
    let group = c.index-groups-index.result in
    let helper = c.index-helpers-index.result in
    let equation = c.in_ok-equation.equation in
    let under = c.loop-index-test.true in
    equated_one (light_trees same g.F.Field.ring) c.args.draws.now c.args.groups.now c.args.helpers.now c.args.list.now c.loop-index.list c.helper_equation.new.list i group helper equation.items c.loop-index.all.items _
    (slice_get_read _ _ _ _ refl under c.index-groups-index.is) (slice_get_read c.args.helpers.now (length c.args.helpers.now) i helper refl (omega (arith, under, c.requires)) c.index-helpers-index.is)
    (search rules) (c.loop-index.invariant same)
    (subst (λ xs. WritesEquation g.F.Field.ring c.loop-index.list c.args.draws.now xs helper.items equation.items c.helper_equation.new.list) c.deref.ensures.value
    (subst (λ ys. WritesEquation g.F.Field.ring c.loop-index.list c.args.draws.now c.deref.result.now ys equation.items c.helper_equation.new.list) c.deref-in-loop-index.ensures.value c.in_ok-equation.ensures) same)

pub returns : goal.returns
returns g c same = equated_all (light_trees same g.F.Field.ring) c.args.draws.now c.args.groups.now c.args.helpers.now c.args.list.now c.loop-index.list c.loop-index.index c.loop-index.all.items c.loop-index-test.false c.requires (c.loop-index.invariant same)

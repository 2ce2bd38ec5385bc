use Rattle.std.proofs.Common.{◌≡◌, ◌-◌, ◌+◌, arith, length, refl}
use Rattle.std.proofs.lemmas.Option.{slice_get-get_or, slice_get_read}
use Rattle.stark_lookup_air.specs.LookupConstraints.{light_trees}
use Rattle.stark_lookup_extension.proofs.EquationSteps.{fraction_all, fraction_none, fraction_one}
use Rattle.stark_lookup_extension.proofs.equations.group_fraction.Goals as goal

pub loop-index-init : goal.loop-index-init
loop-index-init g c = (omega arith, λ same. fraction_none (light_trees same g.F.Field.ring) c.args.draws.now c.args.list.now c.args.group.now c.in_ok-start.start c.in_ok-start.ensures)

pub loop-index-preserved : goal.loop-index-preserved
loop-index-preserved g c =
    let turn = c.loop-index-test.true in
    let most = c.loop-index.invariant.0 in
    let i = c.loop-index.index - 1 in
    let next : i + 1 ≡ c.loop-index.index = omega arith in (
      omega arith,
      λ same. fraction_one (light_trees same g.F.Field.ring) c.args.draws.now c.args.list.now c.loop-index.list c.fraction_with.new.list c.args.group.now i c.loop-index.index c.index-group-index.result c.loop-index.fraction c.in_ok-fraction.fraction next
          (slice_get_read c.args.group.now (length c.args.group.now) i c.index-group-index.result refl (omega arith) c.index-group-index.is) (c.loop-index.invariant.1 same) (c.in_ok-fraction.ensures same),
    )

pub returns : goal.returns
returns g c same = fraction_all (light_trees same g.F.Field.ring) c.args.draws.now c.args.list.now c.loop-index.list c.args.group.now c.loop-index.index c.loop-index.fraction (omega arith) (c.loop-index.invariant.1 same)

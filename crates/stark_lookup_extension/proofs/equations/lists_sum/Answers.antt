use Rattle.std.proofs.Common.{◌≡◌, ◌-◌, ◌+◌, arith, length, refl, rules, subst}
use Rattle.std.proofs.lemmas.Option.{slice_get-get_or, slice_get_read}
use Rattle.stark_lookup_air.specs.LookupConstraints.{light_trees}
use Rattle.stark_lookup_extension.specs.Written.{WritesSums}
use Rattle.stark_lookup_extension.proofs.EquationSteps.{total_all, total_none, total_one}
use Rattle.stark_lookup_extension.proofs.equations.lists_sum.Goals as goal

pub loop-index-init : goal.loop-index-init
loop-index-init g c = (omega arith, λ same. total_none (light_trees same g.F.Field.ring) c.args.list.now c.args.rows.now _ (search rules))

pub loop-index-preserved : goal.loop-index-preserved
loop-index-preserved g c =
    let turn = c.loop-index-test.true in
    let most = c.loop-index.invariant.0 in
    let i = c.loop-index.index - 1 in
    let next : i + 1 ≡ c.loop-index.index = omega arith in
    let total = c.in_ok-total.total.items in
    let row = c.index-rows-index.result in (
      omega arith,
      λ same. total_one (light_trees same g.F.Field.ring) c.args.list.now c.loop-index.list c.sums.new.list c.args.rows.now i c.loop-index.index row c.loop-index.total.items total next (slice_get_read c.args.rows.now (length c.args.rows.now) i row refl (omega arith) c.index-rows-index.is) (c.loop-index.invariant.1 same)
          (subst (λ xs. WritesSums g.F.Field.ring c.loop-index.list xs c.loop-index.total.items total c.sums.new.list) c.deref.ensures.value
          (subst (λ ys. WritesSums g.F.Field.ring c.loop-index.list c.deref.result.now ys total c.sums.new.list) c.deref-in-loop-index.ensures.value c.in_ok-total.ensures) same),
    )

pub returns : goal.returns
returns g c same = total_all (light_trees same g.F.Field.ring) c.args.list.now c.loop-index.list c.args.rows.now c.loop-index.index c.loop-index.total.items (omega arith) (c.loop-index.invariant.1 same)

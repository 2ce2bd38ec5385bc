use Rattle.std.proofs.Common.{◌≡◌, ◌-◌, ◌+◌, ◌≤◌, arith, get_or, length, min, refl, rules, subst}
use Rattle.std.proofs.lemmas.Option.{slice_get-get_or, slice_get_read}
use Rattle.stark_lookup_air.specs.LookupConstraints.{light_trees}
use Rattle.stark_lookup_extension.specs.Written.{WritesScaled, WritesSums}
use Rattle.stark_lookup_extension.proofs.ListSteps.{combined_all, combined_none, combined_one}
use Rattle.stark_lookup_extension.proofs.lists.combination.Goals as goal

pub loop-index-init : goal.loop-index-init
loop-index-init g c =
    let least = c.min-index.ensures in
    (omega (arith, least), omega (arith, least), λ same. combined_none (light_trees same g.F.Field.ring) c.args.list.now c.args.xs.now c.args.rows.now c.min-index.result _ least (search rules))

pub loop-index-preserved : goal.loop-index-preserved
loop-index-preserved g c =
    let turn = c.loop-index-test.true in
    let below = c.loop-index.invariant.0 in
    let under = c.loop-index.invariant.1 in
    let i = c.loop-index.index - 1 in
    let next : i + 1 ≡ c.loop-index.index = omega arith in
    let row = c.index-rows-index.result in
    let part = c.in_ok-part.part.items in
    let total = c.in_ok-total.total.items in (
      omega arith,
      omega arith,
      λ same. combined_one (light_trees same g.F.Field.ring) c.args.list.now c.loop-index.list c.scaled.new.list c.sums.new.list c.args.xs.now c.args.rows.now i c.loop-index.index (get_or c.args.xs.now i 0) row part c.loop-index.total.items total next
          (slice_get-get_or c.args.xs.now i 0 (omega arith)) (slice_get_read c.args.rows.now (length c.args.rows.now) i row refl (omega arith) c.index-rows-index.is) (c.loop-index.invariant.2 same)
          (subst (λ ys. WritesScaled g.F.Field.ring c.loop-index.list (get_or c.args.xs.now i 0) ys part c.scaled.new.list) c.deref.ensures.value c.in_ok-part.ensures same)
          (subst (λ xs. WritesSums g.F.Field.ring c.scaled.new.list xs c.loop-index.total.items total c.sums.new.list) c.deref-in-loop-index.ensures.value
          (subst (λ ys. WritesSums g.F.Field.ring c.scaled.new.list c.deref-in-loop-index.result.now ys total c.sums.new.list) c.deref-in-loop-index-2.ensures.value c.in_ok-total.ensures) same),
    )

pub returns : goal.returns
returns g c same = combined_all (light_trees same g.F.Field.ring) c.args.list.now c.loop-index.list c.args.xs.now c.args.rows.now c.loop-index.index c.loop-index.total.items (omega arith) (c.loop-index.invariant.2 same)

use Rattle.std.proofs.Common.{◌≡◌, ◌∙◌, ◌++◌, ap, arith, drop, length, rules, subst}
use Rattle.std.proofs.lemmas.Option.{slice_get-get_or}
use Rattle.stark_lookup_air.specs.LookupConstraints.{light_trees}
use Rattle.stark_lookup_extension.proofs.ListSteps.{AddedSoFar, added_all, added_none, added_one, below_first, below_second, rest_is}
use Rattle.stark_lookup_extension.proofs.lists.sums.Goals as goal

pub loop-index-init : goal.loop-index-init
loop-index-init g c same = added_none (light_trees same g.F.Field.ring) c.args.list.now c.args.xs.now c.args.ys.now _ (search rules)

pub loop-index-preserved : goal.loop-index-preserved
loop-index-preserved g c same =
    let i = c.loop-index.index in
    let below = c.loop-index-test.true in
    added_one (light_trees same g.F.Field.ring) c.args.list.now c.loop-index.list c.sum.new.list c.args.xs.now c.args.ys.now i _ _ c.in_ok-place.place c.loop-index.all.items _
    (slice_get-get_or c.args.xs.now i 0 (below_first i (length c.args.xs.now) (length c.args.ys.now) (search (rules, below))))
    (slice_get-get_or c.args.ys.now i 0 (below_second i (length c.args.xs.now) (length c.args.ys.now) (search (rules, below)))) c.in_ok-push.ensures.items (c.loop-index.invariant same)
    (c.in_ok-place.ensures same)

pub returns : goal.returns
returns g c same =
    let xs = c.args.xs.now in
    let ys = c.args.ys.now in
    let common = c.min-common.result in
    let all = c.loop-index.all.items in
    let here : c.loop-index.index ≡ common = omega (arith, c.loop-index-test.false, c.loop-index.auto.index-end) in
    let first : c.extend_from_slice.new.self.items ≡ all ++ drop common xs = c.in_ok-extend_from_slice.ensures.items ∙ ap (λ z. all ++ z) (rest_is xs common) in
    let both : c.extend_from_slice-2.new.self.items ≡ (all ++ drop common xs) ++ drop common ys =
    c.in_ok-extend_from_slice-2.ensures.items ∙ ap (λ z. c.extend_from_slice.new.self.items ++ z) (rest_is ys common) ∙ ap (λ z. z ++ drop common ys) first in
    added_all (light_trees same g.F.Field.ring) c.args.list.now c.loop-index.list xs ys common all _ c.min-common.ensures both
    (subst (λ n. AddedSoFar (light_trees same g.F.Field.ring) c.args.list.now xs ys n all c.loop-index.list) here (c.loop-index.invariant same))

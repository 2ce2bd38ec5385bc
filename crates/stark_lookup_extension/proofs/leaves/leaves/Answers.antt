use Rattle.std.proofs.Common.{◌≡◌, ◌∙◌, ◌+◌, ◌-◌, ◌++◌, ◌∷◌, [], ap, arith, rules, suc}
use Rattle.stark_lookup_extension.specs.Leaves.{leaf_node, leaf_tree}
use Rattle.stark_lookup_extension.specs.Written.{StandsAt}
use Rattle.stark_lookup_air.specs.LookupConstraints.{from_place}
use Rattle.stark_lookup_extension.proofs.LeafSteps.{leaf_written, leaves_all, leaves_none, leaves_one, next_from, none_from, same_rest}
use Rattle.stark_lookup_extension.proofs.Steps.{place_kept}
use Rattle.stark_lookup_extension.proofs.leaves.leaves.Goals as goal

pub loop-index-init : goal.loop-index-init
loop-index-init g c = same_rest StandsAt c.args.leaf (c.args.first + c.args.count) (leaf_tree c.args.leaf) c.args.first ((c.args.first + c.args.count) - c.args.first) c.args.count (omega arith) c.args.list.now _ (search rules)

pub loop-index-preserved : goal.loop-index-preserved
loop-index-preserved g c =
    let end = c.args.first + c.args.count in
    let i = c.loop-index.index in
    let below = c.loop-index-test.true in
    let leaf = c.args.leaf in
    leaves_one StandsAt leaf end place_kept c.args.list.now c.loop-index.list c.node.new.self (from_place (leaf_tree leaf) i (end - i)) (from_place (leaf_tree leaf) (i + 1) (end - (i + 1))) (from_place (leaf_tree leaf) c.args.first c.args.count)
    (leaf_tree leaf i) c.in_ok-place.place c.loop-index.all.items _ (next_from (leaf_tree leaf) i (end - i) (end - (i + 1)) (omega (arith, below))) c.in_ok-push.ensures.items c.loop-index.invariant
    (leaf_written leaf end i c.in_ok-place.place c.loop-index.list c.node.new.self (omega (arith, below)) c.node.ensures.constants c.node.ensures.constraints
    (search (rules, c.in_ok-place.ensures, c.leaf_node.ensures)) c.in_ok-place.ensures.place)

pub returns : goal.returns
returns g c =
    let end = c.args.first + c.args.count in
    let i = c.loop-index.index in
    let leaf = c.args.leaf in
    leaves_all StandsAt leaf end c.args.list.now c.loop-index.list (from_place (leaf_tree leaf) i (end - i)) (from_place (leaf_tree leaf) c.args.first c.args.count) c.loop-index.all.items
    (none_from (leaf_tree leaf) i (end - i) (omega (arith, c.loop-index-test.false))) c.loop-index.invariant

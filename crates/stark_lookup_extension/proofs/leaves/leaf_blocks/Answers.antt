use Rattle.std.proofs.Common.{◌≡◌, ◌+◌, ◌-◌, ◌*◌, suc, arith, rules, length}
use Rattle.stark_lookup_extension.specs.Leaves.{leaf_tree}
use Rattle.stark_lookup_extension.specs.Written.{Stand}
use Rattle.stark_lookup_air.specs.LookupConstraints.{blocks_from, from_place}
use Rattle.stark_lookup_extension.proofs.LeafSteps.{block_room, blocks_start, leaf_block, leaves_all, leaves_one, next_block, none_block, next_start}
use Rattle.stark_lookup_extension.proofs.ListSteps.{Row, row_kept}
use Rattle.stark_lookup_extension.proofs.leaves.leaf_blocks.Goals as goal

pub loop-index-init : goal.loop-index-init
loop-index-init g c = (blocks_start Row c.args.leaf (c.args.first + c.args.count * c.args.size) (leaf_tree c.args.leaf) c.args.first c.args.size c.args.count c.args.list.now _ (search rules), search rules)

pub loop-index-preserved : goal.loop-index-preserved
loop-index-preserved g c =
    let first = c.args.first in
    let size = c.args.size in
    let count = c.args.count in
    let end = first + count * size in
    let i = c.loop-index.index in
    let below = c.loop-index-test.true in
    let leaf = c.args.leaf in (
      leaves_one Row leaf end row_kept c.args.list.now c.loop-index.list c.leaves.new.list (blocks_from (leaf_tree leaf) (first + i * size) size (count - i)) (blocks_from (leaf_tree leaf) (first + (i + 1) * size) size (count - (i + 1)))
          (blocks_from (leaf_tree leaf) first size count) (from_place (leaf_tree leaf) (first + i * size) size) c.in_ok-block.block c.loop-index.all.items _
          (next_block (leaf_tree leaf) (first + i * size) (first + (i + 1) * size) size (count - i) (count - (i + 1)) (omega (arith, below)) (next_start first size i)) c.in_ok-push.ensures.items c.loop-index.invariant.0
          (leaf_block Stand (from_place (leaf_tree leaf) (first + i * size) size) leaf (first + i * size) end size (block_room first count size i (omega (arith, below))) c.loop-index.list c.leaves.new.list c.in_ok-block.block.items c.in_ok-block.ensures),
      search rules,
    )

pub returns-clause-blocks : goal.returns-clause-blocks
returns-clause-blocks g c =
    let first = c.args.first in
    let size = c.args.size in
    let count = c.args.count in
    let i = c.loop-index.index in
    let leaf = c.args.leaf in
    leaves_all Row leaf (first + count * size) c.args.list.now c.loop-index.list (blocks_from (leaf_tree leaf) (first + i * size) size (count - i)) (blocks_from (leaf_tree leaf) first size count) c.loop-index.all.items
    (none_block (leaf_tree leaf) (first + i * size) size (count - i) (omega (arith, c.loop-index-test.false))) c.loop-index.invariant.0

pub leaves-requires : goal.leaves-requires
leaves-requires g c = let room = block_room c.args.first c.args.count c.args.size c.loop-index.index c.loop-index-test.true in omega (arith, room, c.requires)

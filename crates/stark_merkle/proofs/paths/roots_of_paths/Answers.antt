use Rattle.std.proofs.Common.{◌≡◌, ◌∙◌, ◌+◌, ◌*◌, ◌/◌, ◌<◌, ℕ, List, [], ap, arith, drop, length, slice_index, slice_index_or}
use Rattle.stark_merkle.specs.Eight.{first_of, path_at}
use Rattle.stark_merkle.specs.Tree.{joined, led}
use Rattle.stark_merkle.proofs.PathSteps.{node_in_order}
use Rattle.stark_merkle.proofs.Steps.{led_all, led_more}
use Rattle.stark_merkle.proofs.paths.roots_of_paths.Goals as goal

pub loop-level-preserved : goal.loop-level-preserved
loop-level-preserved g c i low =
    let node = g.H.TreeHash.digests.node in
    let level = c.loop-level.level in
    let place = slice_index c.loop-level.places i in
    let digest = slice_index_or c.loop-level.digests i [] in
    let next = slice_index_or c.eight_nodes-digests.result i [] in
    let path = path_at c.args.paths.now i in
    let beside : List ℕ = slice_index_or path level [] in
    let turn = c.loop-level-test.true in
    let below : level < length path = omega (arith, turn, c.requires i low) in
    let pairs = c.pairs_at.result in
    let pair = c.pairs_at.ensures i low in
    let start : 0 + i ≡ i = omega arith in
    let is_next : next ≡ joined node place digest beside
    = c.eight_nodes-digests.ensures i low ∙ ap (λ k. node (slice_index_or pairs (2 * k) []) (slice_index_or pairs (2 * k + 1) [])) start
    ∙ ap (λ x. node x (slice_index_or pairs (2 * i + 1) [])) pair.0 ∙ ap (λ x. node (first_of place digest beside) x) pair.1 ∙ node_in_order node place digest beside in
    ap (λ n. led node n next (drop (level + 1) path)) (c.halved-places.ensures i low)
    ∙ led_more node place digest next path level [] _ below is_next (c.loop-level.invariant i low)

pub returns : goal.returns
returns g c i low =
    let ended = c.loop-level-test.false in
    led_all g.H.TreeHash.digests.node (slice_index c.loop-level.places i) (slice_index_or c.loop-level.digests i []) (path_at c.args.paths.now i) c.loop-level.level _
    (omega (arith, ended, c.requires i low)) (c.loop-level.invariant i low)

use Rattle.std.proofs.Common.{◌≡◌, ◌<◌, ℕ, [], drop, slice_index, slice_index_or}
use Rattle.stark_merkle.specs.Eight.{path_at}
use Rattle.stark_merkle.specs.Tree.{led}
use Rattle.stark_merkle.proofs.paths.roots_of_paths.Given as goal

-- What is left of each path leads from here where all of it leads from its start.
abbrev pub invariant-loop-level : goal.invariant-loop-level
invariant-loop-level g l =
    let led_by = led g.H.TreeHash.digests.node in
    (i : ℕ) → i < 8 → led_by (slice_index l.places i) (slice_index_or l.digests i []) (drop l.level (path_at l.paths i))
    ≡ led_by (slice_index l.fn.indices i) (slice_index_or l.fn.starts i []) (path_at l.paths i)

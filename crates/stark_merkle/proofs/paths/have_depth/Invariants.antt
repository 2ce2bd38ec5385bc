use Rattle.std.proofs.Common.{◌≡◌, ◌<◌, ℕ, length}
use Rattle.stark_merkle.specs.Eight.{path_at}
use Rattle.stark_merkle.proofs.paths.have_depth.Given as goal

abbrev pub invariant-loop-i : goal.invariant-loop-i
invariant-loop-i l = (k : ℕ) → k < l.i → length (path_at l.paths k) ≡ l.depth

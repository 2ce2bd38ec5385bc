use Rattle.std.proofs.Common.{◌≡◌, length}
use Rattle.stark_merkle.specs.Eight.{ArePairs}
use Rattle.stark_merkle.proofs.paths.pairs_at.Given as goal

abbrev pub invariant-loop-i : goal.invariant-loop-i
invariant-loop-i l = (length l.pairs ≡ 16) × ArePairs l.i l.places l.digests l.paths l.level l.pairs

use Rattle.std.proofs.Common.{◌≡◌, ◌<◌, ℕ, length}
use Rattle.stark_sha256.specs.Pieces.{piece}
use Rattle.stark_sha256.proofs.digest.have_length.Given as goal

abbrev pub invariant-loop-j : goal.invariant-loop-j
invariant-loop-j g l = (i : ℕ) → i < l.j → length (piece l.slices i) ≡ l.len

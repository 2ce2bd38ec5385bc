use Rattle.std.proofs.Common.{◌≡◌, ℕ, length}
use Rattle.stark_dft.specs.Passes.{entry}
use Rattle.stark_dft.proofs.transform.filled_up.Given as goal

abbrev pub invariant-loop-place : goal.invariant-loop-place
invariant-loop-place g l = (length l.filled.items ≡ l._place) × ((j : ℕ) → entry g.F.Field.ring l.filled.items j ≡ entry g.F.Field.ring l.values j)

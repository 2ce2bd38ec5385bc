-- Logarithms to base two, of whole numbers.
use Rattle.std.specs.Prelude.{ℕ, ◌^◌, ◌≤◌}

-- k is the least number with n at most 2 ^ k.
pub record IsCeilingOfLog (k : ℕ) (n : ℕ) : Type 0 where
  pub covers : n ≤ 2 ^ k
  pub least : (j : ℕ) → n ≤ 2 ^ j → k ≤ j

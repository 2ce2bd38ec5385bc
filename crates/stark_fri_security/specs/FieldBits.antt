-- The bits of a field.
use Rattle.std.specs.Prelude.{ℕ, ◌-◌, ◌*◌, ◌^◌, ◌<◌, ◌≤◌, min}

-- k is the greatest number with 2 ^ k at most n.
pub record IsFloorOfLog (k n : ℕ) : Type 0 where
  pub within : 2 ^ k ≤ n
  pub below : n < 2 * 2 ^ k

-- So many bits has a field of order ^ degree elements, where 2 ^ 128 and more count as 2 ^ 128 - 1.
abbrev pub AreFieldBits : ℕ → ℕ → ℕ → Type 0
AreFieldBits order degree bits = IsFloorOfLog bits (min (order ^ degree) (2 ^ 128 - 1))

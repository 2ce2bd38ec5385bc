-- Proved bits where a proof lists its columns: what the bad alphas and zetas leave of the field's.
use Rattle.std.specs.Prelude.{◌≡◌, ℕ, ◌+◌, ◌-◌, ◌*◌, ◌^◌, ◌≤◌, max}
use Rattle.stark_support.specs.Logarithm.{IsCeilingOfLog}

pub record AreListedBits (field_bits alphas zetas bits : ℕ) : Type 0 where
  pub log : ℕ
  pub bad : IsCeilingOfLog log (max (alphas + zetas) 1)
  pub left : bits ≡ field_bits - log

-- 2^bits times the number of bad elements is at most the number of all.
abbrev pub ListedBitsAreProved : Type 0
ListedBitsAreProved = (field_bits alphas zetas bits elements : ℕ) → AreListedBits field_bits alphas zetas bits → 1 ≤ bits → 2 ^ field_bits ≤ elements → 2 ^ bits * (alphas + zetas) ≤ elements

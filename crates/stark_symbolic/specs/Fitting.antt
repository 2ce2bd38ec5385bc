-- Numbers that 64 bits hold.
use Rattle.std.specs.Prelude.{◌≡◌, ◌⊎◌, ℕ, ◌-◌, ◌^◌, ◌<◌, ◌≤◌, true, false, nat_lt, if◌then◌else◌, Option, Some, None, unwrap_or, refl}
use Rattle.std.proofs.Common.{◌∙◌, ap, arith, inl, inr}
use Rattle.stark_symbolic.specs.Degree.{saturated}

-- A number that 64 bits hold, None for any other.
abbrev pub fitting : ℕ → Option ℕ
fitting n = if nat_lt n (2 ^ 64) then Some n else None

pub is_below : (n m : ℕ) → n < m → nat_lt n m ≡ true
is_below n m h = grind (arith, h)

pub not_below : (n m : ℕ) → m ≤ n → nat_lt n m ≡ false
not_below n m h = grind (arith, h)

pub below_or_past : (n m : ℕ) → (n < m) ⊎ (m ≤ n)
below_or_past n m = grind arith

pub fits : (n : ℕ) → n < 2 ^ 64 → fitting n ≡ Some n
fits n h = rw (is_below n (2 ^ 64) h) refl

pub past : (n : ℕ) → 2 ^ 64 ≤ n → fitting n ≡ None
past n h = rw (not_below n (2 ^ 64) h) refl

-- The greatest number of 64 bits in place of one that they don't hold.
pub saturated_fits : (n : ℕ) → unwrap_or (fitting n) (2 ^ 64 - 1) ≡ saturated n
saturated_fits n = go (below_or_past n (2 ^ 64)) where
  go : (n < 2 ^ 64) ⊎ (2 ^ 64 ≤ n) → unwrap_or (fitting n) (2 ^ 64 - 1) ≡ saturated n
  go (inl p) = ap (λ x. unwrap_or x (2 ^ 64 - 1)) (fits n p) ∙ omega arith
  go (inr p) = ap (λ x. unwrap_or x (2 ^ 64 - 1)) (past n p) ∙ omega arith

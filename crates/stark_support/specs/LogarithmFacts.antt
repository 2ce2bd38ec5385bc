-- Powers of two grow, so their exponents do.
use Rattle.std.specs.Prelude.{◌≡◌, ℕ, ◌+◌, ◌*◌, ◌^◌, ◌<◌, ◌≤◌, ◌⊎◌}
use Rattle.std.proofs.Common.{inl, inr, arith, suc, ap, sym, ◌∙◌, subst, add-one}
use Rattle.std.proofs.Math.Nat.{pow-suc}
use Rattle.std.proofs.lemmas.Nat.{pow_below}
use Rattle.stark_support.specs.Logarithm.{IsCeilingOfLog}

equal_or_below : (i j : ℕ) → i ≤ j → (i ≡ j) ⊎ (i < j)
equal_or_below i j h = grind arith

pub at_most_or_above : (i j : ℕ) → (i ≤ j) ⊎ (j < i)
at_most_or_above i j = grind arith

pub two_power_at_most : (i j : ℕ) → i ≤ j → 2 ^ i ≤ 2 ^ j
two_power_at_most i j h = elim (equal_or_below i j h) [
  | inl same ↦ subst (λ (k : ℕ). 2 ^ i ≤ 2 ^ k) same (omega arith)
  | inr below ↦ omega (arith, pow_below i j below)
]

pub exponent_below : (i j : ℕ) → 2 ^ i < 2 ^ j → i < j
exponent_below i j h = elim (at_most_or_above j i) [
  | inl above ↦ absurd (omega (arith, two_power_at_most j i above))
  | inr below ↦ below
]

pub exponent_at_most : (i j : ℕ) → 2 ^ i ≤ 2 ^ j → i ≤ j
exponent_at_most i j h = elim (at_most_or_above i j) [
  | inl below ↦ below
  | inr above ↦ absurd (omega (arith, pow_below j i above))
]

pub same_exponent : (i j : ℕ) → 2 ^ i ≡ 2 ^ j → i ≡ j
same_exponent i j h =
    let below : i ≤ j = exponent_at_most i j (omega arith) in
    let above : j ≤ i = exponent_at_most j i (omega arith) in
    omega arith

pub ceiling_between : (r n : ℕ) → 2 ^ r < n → n ≤ 2 * 2 ^ r → IsCeilingOfLog (r + 1) n
ceiling_between r n above within = record {
  covers = omega (arith, pow-suc 2 r, ap (λ (m : ℕ). 2 ^ m) (add-one r));
  least = λ j h. let past : r < j = exponent_below r j (omega arith) in omega arith;
}

pub ceiling_of_one : (n : ℕ) → n ≤ 1 → IsCeilingOfLog 0 n
ceiling_of_one n h = record { covers = omega arith; least = λ j within. omega arith }

-- What lies between a power of two and the next, and is one, is the smaller.
pub strict_log : (r k n : ℕ) → 2 ^ r ≤ n → n < 2 * 2 ^ r → n ≡ 2 ^ k → 2 ^ r ≡ n
strict_log r k n within below is =
    let at_most : r ≤ k = exponent_at_most r k (omega arith) in
    let above : k < suc r = exponent_below k (suc r) (omega (arith, pow-suc 2 r)) in
    let same : k ≡ r = omega arith in
    ap (λ (m : ℕ). 2 ^ m) (sym same) ∙ sym is

-- A number is above 2 ^ a exactly where its logarithm, rounded up, is above a.
pub above_power : (a k n : ℕ) → IsCeilingOfLog k n → a < k → 2 ^ a < n
above_power a k n log above = elim (at_most_or_above n (2 ^ a)) [
  | inl within ↦ absurd (omega (arith, log.least a within))
  | inr past ↦ past
]

pub within_power : (a k n : ℕ) → IsCeilingOfLog k n → k ≤ a → n ≤ 2 ^ a
within_power a k n log within = omega (arith, log.covers, two_power_at_most k a within)

-- Powers up to a greatest number.
use Rattle.std.proofs.Common.{◌≡◌, ◌∙◌, ◌⊎◌, inl, inr, ◌+◌, ◌-◌, ◌*◌, ◌^◌, ◌<◌, ◌≤◌, ℕ, suc, sym, add-one, ap, arith}
use Rattle.std.proofs.Math.Nat.{le-mul_of_pos_right, one-le-pow, pow-suc}
use Rattle.std.specs.Prelude.{min}

within_or_past : (n most : ℕ) → (n ≤ most) ⊎ (most < n)
within_or_past n most = grind arith

capped : (most n p : ℕ) → 1 ≤ p → min (min n most * p) most ≡ min (n * p) most
capped most n p positive = elim (within_or_past n most) [
  | inl within ↦ ap (λ k. min (k * p) most) (let same : min n most ≡ n = omega arith in same)
  | inr past ↦
      let of_most : most ≤ most * p = le-mul_of_pos_right most positive in
      let of_n : n ≤ n * p = le-mul_of_pos_right n positive in
      ap (λ k. min (k * p) most) (let same : min n most ≡ most = omega arith in same) ∙ omega arith
]

-- One more factor.
pub power_capped : (most base k obtained next : ℕ) → 1 ≤ base → obtained ≡ min (base ^ k) most → next ≡ min (obtained * base) most → next ≡ min (base ^ (k + 1)) most
power_capped most base k obtained next positive is gives =
    gives ∙ ap (λ n. min (n * base) most) is ∙ capped most (base ^ k) base positive
    ∙ ap (λ n. min n most) (let same : base ^ k * base ≡ base ^ suc k = sym (pow-suc base k) in same) ∙ ap (λ j. min (base ^ j) most) (sym (add-one k))

-- A power of a positive number is positive, capped too.
pub capped_positive : (base k : ℕ) → 1 ≤ base → 1 ≤ min (base ^ k) (2 ^ 128 - 1)
capped_positive base k positive = omega (arith, one-le-pow k base positive)

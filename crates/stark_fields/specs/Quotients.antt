-- Products with a factor whose quotient by the modulus, with 32 zero bits behind the factor, is known (Shoup's method).
use Rattle.std.specs.Prelude.{◌≡◌, ℕ, ◌+◌, ◌-◌, ◌*◌, ◌/◌, ◌%◌, ◌^◌, ◌<◌, ◌≤◌}
use Rattle.std.proofs.Common.{sym, ◌∙◌, ap, arith}
use Rattle.std.proofs.lemmas.Nat.{mul-le}
use Rattle.std.proofs.Math.Nat.{div-mul-le_self, lt-div-mul-add, add-mul-mod_self_left}

-- of the factor w modulo p
abbrev pub shoup_quotient : ℕ → ℕ → ℕ
shoup_quotient p w = w * 2 ^ 32 / p

-- how often p is taken from the product of w and a: as often as it goes into it, or once less
abbrev pub shoup_times : ℕ → ℕ → ℕ → ℕ
shoup_times p w a = a * shoup_quotient p w / 2 ^ 32

-- k is the factor's quotient, t that of the product
within : (p w a k t : ℕ) → k * p ≤ w * 2 ^ 32 → t * 2 ^ 32 ≤ a * k → t * p ≤ w * a
within p w a k t first second =
    let one : a * (k * p) ≤ a * (w * 2 ^ 32) = mul-le a (k * p) a (w * 2 ^ 32) (omega arith) first in
    let two : t * 2 ^ 32 * p ≤ a * k * p = mul-le (t * 2 ^ 32) p (a * k) p second (omega arith) in
    omega (arith, one, two)

twice : (p w a k t : ℕ) → w * 2 ^ 32 < k * p + p → a * k < t * 2 ^ 32 + 2 ^ 32 → 0 < p → a < 2 ^ 32 → w * a - t * p < 2 * p
twice p w a k t first second positive short =
    let one : a * (w * 2 ^ 32) ≤ a * (k * p + p) = mul-le a (w * 2 ^ 32) a (k * p + p) (omega arith) (omega (arith, first)) in
    let two : (a * k + 1) * p ≤ (t * 2 ^ 32 + 2 ^ 32) * p = mul-le (a * k + 1) p (t * 2 ^ 32 + 2 ^ 32) p (omega (arith, second)) (omega arith) in
    let three : (a + 1) * p ≤ 2 ^ 32 * p = mul-le (a + 1) p (2 ^ 32) p (omega (arith, short)) (omega arith) in
    omega (arith, one, two, three, positive)

same : (p w a t : ℕ) → t * p ≤ w * a → (w * a - t * p) % p ≡ w * a % p
same p w a t h =
    let whole : w * a - t * p + p * t ≡ w * a = omega (arith, h) in
    sym (add-mul-mod_self_left (w * a - t * p) p t) ∙ ap (λ n. n % p) whole

module _ (p w a : ℕ) (positive : 0 < p) where
  pub multiple_within : shoup_times p w a * p ≤ w * a
  multiple_within = within p w a (shoup_quotient p w) (shoup_times p w a) (div-mul-le_self (w * 2 ^ 32) p) (div-mul-le_self (a * shoup_quotient p w) (2 ^ 32))

  pub rest_below_twice : a < 2 ^ 32 → w * a - shoup_times p w a * p < 2 * p
  rest_below_twice short =
      twice p w a (shoup_quotient p w) (shoup_times p w a) (lt-div-mul-add {a = w * 2 ^ 32} {b = p} positive)
      (lt-div-mul-add {a = a * shoup_quotient p w} {b = 2 ^ 32} (omega arith)) positive short

  pub rest_is_same : (w * a - shoup_times p w a * p) % p ≡ w * a % p
  rest_is_same = same p w a (shoup_times p w a) multiple_within

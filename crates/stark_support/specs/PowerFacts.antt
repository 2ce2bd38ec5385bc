-- Powers in a ring, by products and by squarings.
use Rattle.std.specs.Prelude.{◌≡◌, ℕ, zero, suc, ◌+◌, ◌*◌, ◌^◌, ◌/◌, ◌%◌, [], ◌∷◌, refl}
use Rattle.std.proofs.Common.{sym, ◌∙◌, ap, arith, pow-suc, mul-zero, zero-add}
use Rattle.stark_support.specs.Ring.{RingOps, RingLaws}
use Rattle.stark_support.specs.RingFacts.{one_mul, mul_zero}
use Rattle.stark_support.specs.RingSolver.{solve, unit, ◌⊕◌, ◌⊖◌, ◌⊗◌, v0, v1, v2, v3}
use Rattle.stark_support.specs.Powers.{power, squarings, power_sum}

pub suc-add : (m n : ℕ) → suc m + n ≡ suc (m + n)
suc-add m n = omega arith

times_suc : (m n : ℕ) → m + m * n ≡ m * suc n
times_suc m n = omega arith

pub double : (k : ℕ) → 2 ^ k + 2 ^ k ≡ 2 ^ suc k
double k = omega (arith, pow-suc 2 k)

module _ {K : Type 0} {ring : RingOps K} (laws : RingLaws ring) where
  pub power-add : (x : K) (m n : ℕ) → power ring x (m + n) ≡ ring.mul (power ring x m) (power ring x n)
  unfolding power
  power-add x zero n = ap (λ k. power ring x k) (zero-add n) ∙ sym (one_mul laws (power ring x n))
  power-add x (suc m) n = ap (λ k. power ring x k) (suc-add m n) ∙ ap (ring.mul x) (power-add x m n) ∙ sym (laws.mul_assoc x (power ring x m) (power ring x n))

  pub power-one : (n : ℕ) → power ring ring.one n ≡ ring.one
  unfolding power
  power-one zero = refl
  power-one (suc n) = one_mul laws (power ring ring.one n) ∙ power-one n

  pub power-mul : (x y : K) (n : ℕ) → power ring (ring.mul x y) n ≡ ring.mul (power ring x n) (power ring y n)
  unfolding power
  power-mul x y zero = sym (laws.mul_one ring.one)
  power-mul x y (suc n) = ap (ring.mul (ring.mul x y)) (power-mul x y n) ∙ solve laws (x ∷ y ∷ power ring x n ∷ power ring y n ∷ []) (v0 ⊗ v1 ⊗ (v2 ⊗ v3)) (v0 ⊗ v2 ⊗ (v1 ⊗ v3)) refl

  pub power-zero : (x : K) → power ring x 0 ≡ ring.one
  unfolding power
  power-zero x = refl

  pub power-two : (x : K) → power ring x 2 ≡ ring.mul x x
  unfolding power
  power-two x = ap (ring.mul x) (laws.mul_one x)

  -- (x^m)^n
  pub power-power : (x : K) (m n : ℕ) → power ring (power ring x m) n ≡ power ring x (m * n)
  unfolding power
  power-power x m zero = ap (λ k. power ring x k) (sym (mul-zero m))
  power-power x m (suc n) = ap (ring.mul (power ring x m)) (power-power x m n) ∙ sym (power-add x m (m * n)) ∙ ap (λ k. power ring x k) (times_suc m n)

  pub squarings_product : (x y : K) (k : ℕ) → squarings ring (ring.mul x y) k ≡ ring.mul (squarings ring x k) (squarings ring y k)
  unfolding squarings
  squarings_product x y zero = refl
  squarings_product x y (suc k) = ap (λ t. ring.mul t t) (squarings_product x y k) ∙ solve laws (squarings ring x k ∷ squarings ring y k ∷ []) (v0 ⊗ v1 ⊗ (v0 ⊗ v1)) (v0 ⊗ v0 ⊗ (v1 ⊗ v1)) refl

  pub squarings_one : (k : ℕ) → squarings ring ring.one k ≡ ring.one
  unfolding squarings
  squarings_one zero = refl
  squarings_one (suc k) = ap (λ t. ring.mul t t) (squarings_one k) ∙ laws.mul_one ring.one

  pub squarings_zero : (k : ℕ) → squarings ring ring.zero k ≡ ring.zero
  unfolding squarings
  squarings_zero zero = refl
  squarings_zero (suc k) = ap (λ t. ring.mul t t) (squarings_zero k) ∙ mul_zero laws ring.zero

  pub squarings_power : (x : K) (n k : ℕ) → squarings ring (power ring x n) k ≡ power ring (squarings ring x k) n
  unfolding squarings
  squarings_power x n zero = refl
  squarings_power x n (suc k) = ap (λ t. ring.mul t t) (squarings_power x n k) ∙ sym (power-mul (squarings ring x k) (squarings ring x k) n)

  pub squarings_is_power : (x : K) (k : ℕ) → squarings ring x k ≡ power ring x (2 ^ k)
  unfolding squarings power
  squarings_is_power x zero = sym (laws.mul_one x)
  squarings_is_power x (suc k) = ap (λ t. ring.mul t t) (squarings_is_power x k) ∙ sym (power-add x (2 ^ k) (2 ^ k)) ∙ ap (λ n. power ring x n) (double k)

  -- (x - 1)(x^(n-1) + .. + x + 1) = x^n - 1
  pub power_sum_telescopes : (x : K) (n : ℕ) → ring.mul (ring.add x (ring.neg ring.one)) (power_sum ring x n) ≡ ring.add (power ring x n) (ring.neg ring.one)
  unfolding power_sum power
  power_sum_telescopes x zero = mul_zero laws _ ∙ sym (laws.add_neg ring.one)
  power_sum_telescopes x (suc n) =
      laws.mul_add _ _ _ ∙ ap (ring.add (ring.mul (ring.add x (ring.neg ring.one)) (power ring x n))) (power_sum_telescopes x n) ∙
      solve laws (x ∷ power ring x n ∷ []) ((v0 ⊖ unit) ⊗ v1 ⊕ (v1 ⊖ unit)) (v0 ⊗ v1 ⊖ unit) refl

twice_half : (n : ℕ) → (n % 2 ≡ 1 → ⊥) → n / 2 + n / 2 ≡ n
twice_half n even = omega arith

suc_twice_half : (n : ℕ) → n % 2 ≡ 1 → suc (n / 2 + n / 2) ≡ n
suc_twice_half n odd = omega arith

module _ {K : Type 0} {ring : RingOps K} (laws : RingLaws ring) where
  pub power_of_square : (x : K) (n : ℕ) → power ring (ring.mul x x) n ≡ power ring x (n + n)
  power_of_square x n = power-mul laws x x n ∙ sym (power-add laws x n n)

  -- a step of the power by squaring
  pub squared_even : (r s t : K) (n : ℕ) → (n % 2 ≡ 1 → ⊥) → ring.mul r (power ring s n) ≡ t → ring.mul r (power ring (ring.mul s s) (n / 2)) ≡ t
  squared_even r s t n even before =
      ap (ring.mul r) (power_of_square s (n / 2) ∙ ap (power ring s) (twice_half n even)) ∙ before

  -- the power by squaring, at its end
  pub squared_last : (r s t : K) (n : ℕ) → n ≡ 0 → ring.mul r (power ring s n) ≡ t → r ≡ t
  squared_last r s t n ended before = sym (laws.mul_one r) ∙ ap (ring.mul r) (sym (power-zero laws s) ∙ ap (power ring s) (sym ended)) ∙ before

  odd_step : (s : K) (n : ℕ) → n % 2 ≡ 1 → ring.mul s (power ring s (n / 2 + n / 2)) ≡ power ring s n
  unfolding power
  odd_step s n odd = ap (power ring s) (suc_twice_half n odd)

  pub squared_odd : (r s t : K) (n : ℕ) → n % 2 ≡ 1 → ring.mul r (power ring s n) ≡ t → ring.mul (ring.mul r s) (power ring (ring.mul s s) (n / 2)) ≡ t
  squared_odd r s t n odd before =
      ap (ring.mul (ring.mul r s)) (power_of_square s (n / 2)) ∙ laws.mul_assoc _ _ _ ∙ ap (ring.mul r) (odd_step s n odd) ∙ before

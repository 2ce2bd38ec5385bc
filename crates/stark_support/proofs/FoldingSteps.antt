-- The numbers and powers of a folding.
use Rattle.std.proofs.Common.{◌≡◌, ◌∙◌, ℕ, suc, ◌+◌, ◌-◌, ◌*◌, ◌/◌, ◌^◌, ◌<◌, ◌≤◌, [], ◌∷◌, ap, sym, refl, arith, add-one, pow-suc}
use Rattle.stark_support.specs.Powers.{power}
use Rattle.stark_support.specs.PowerFacts.{power-zero}
use Rattle.stark_support.specs.Ring.{RingOps, RingLaws, difference}
use Rattle.stark_support.specs.RingSolver.{solve, ◌⊗◌, v0, v1, v2}

pub two_halves : (n : ℕ) → 2 * (n / 2) ≡ n → n ≡ n / 2 + n / 2
two_halves n even = omega arith

pub all_left : (n k : ℕ) → n ≡ 2 ^ k → n ≡ 2 ^ (k - 0)
all_left n k is = let all : k - 0 ≡ k = omega arith in is ∙ ap (λ m. 2 ^ m) (sym all)

pub one_left : (n k i : ℕ) → k ≤ i → n ≡ 2 ^ (k - i) → n ≡ 1
one_left n k i ended is = let none : k - i ≡ 0 = omega arith in is ∙ ap (λ m. 2 ^ m) none

-- a power of two that isn't one, and its half
pub halved : (n k i : ℕ) → i < k → n ≡ 2 ^ (k - i) → (2 * (n / 2) ≡ n) × (n / 2 ≡ 2 ^ (k - (i + 1)))
halved n k i below is =
    let next : k - i ≡ suc (k - (i + 1)) = omega arith in
    let double : n ≡ 2 * 2 ^ (k - (i + 1)) = is ∙ ap (λ m. 2 ^ m) next ∙ omega (arith, pow-suc 2 (k - (i + 1))) in
    (omega arith, omega arith)

module _ {K : Type 0} {ring : RingOps K} (laws : RingLaws ring) (x w : K) where
  pub ratio_start : x ≡ ring.mul x (power ring w 0)
  ratio_start = sym (ap (ring.mul x) (power-zero laws w) ∙ laws.mul_one x)

  pub ratio_next : (i : ℕ) (r s : K) → s ≡ ring.mul r w → r ≡ ring.mul x (power ring w i) → s ≡ ring.mul x (power ring w (i + 1))
  unfolding power
  ratio_next i r s is so_far =
      is ∙ ap (λ t. ring.mul t w) so_far ∙ solve laws (x ∷ w ∷ power ring w i ∷ []) (v0 ⊗ v2 ⊗ v1) (v0 ⊗ (v1 ⊗ v2)) refl ∙ ap (λ n. ring.mul x (power ring w n)) (sym (add-one i))

-- what a turn of the loop computes
pub entry_is : {K : Type 0} (ring : RingOps K) (h a b y r s d m t v : K) → s ≡ ring.add a b → d ≡ difference ring a b → m ≡ ring.mul r d → t ≡ ring.add s m → v ≡ ring.mul h t → r ≡ y
    → v ≡ ring.mul h (ring.add (ring.add a b) (ring.mul y (difference ring a b)))
entry_is ring h a b y r s d m t v is_s is_d is_m is_t is_v is_r =
    is_v ∙ ap (ring.mul h) (is_t ∙ ap (λ k. ring.add k m) is_s ∙ ap (ring.add (ring.add a b)) (is_m ∙ ap (ring.mul r) is_d ∙ ap (λ k. ring.mul k (difference ring a b)) is_r))

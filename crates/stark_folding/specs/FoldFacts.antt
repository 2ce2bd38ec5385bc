-- The values of a folded polynomial are the folded values.
use Rattle.std.specs.Prelude.{◌≡◌, ◌≢◌, ℕ, suc, ◌+◌, ◌-◌, ◌^◌, ◌≤◌, List, [], ◌∷◌, refl}
use Rattle.std.proofs.Common.{sym, ap, ◌∙◌, arith}
use Rattle.stark_support.specs.Ring.{RingOps, RingLaws, FieldLaws}
use Rattle.stark_support.specs.RingFacts.{unique_neg}
use Rattle.stark_support.specs.RingSolver.{solve, unit, opposite_of, ◌⊗◌, v0, v1}
use Rattle.stark_support.specs.FieldFacts.{nonzero_product}
use Rattle.stark_support.specs.Powers.{power}
use Rattle.stark_support.specs.PowerFacts.{power-add, power-mul, squarings_is_power}
use Rattle.stark_support.specs.FoldingFacts.{pair_folds as halves_fold}
use Rattle.stark_support.specs.Polynomial.{value}
use Rattle.stark_support.specs.TwoAdic.{TwoAdicLaws}
use Rattle.stark_support.specs.Coset.{TwoAdicCoset, IsTwoAdicCoset, coset_point}
use Rattle.stark_support.specs.CosetFacts.{halfway, point_nonzero}
use Rattle.stark_folding.specs.Fold.{folded, folded_pair, half_of, squared_coset}

-- A point and its opposite have one square.
pub opposite_squared : {K : Type 0} {ring : RingOps K} → RingLaws ring → (x : K) → ring.mul (ring.neg x) (ring.neg x) ≡ ring.mul x x
opposite_squared laws x = solve laws (x ∷ []) (opposite_of v0 ⊗ opposite_of v0) (v0 ⊗ v0) refl

module _ {K : Type 0} {ring : RingOps K} {inverse : K → K} (laws : FieldLaws ring inverse) where
  -- The pair of a polynomial's values at x and at -x folds to the folded polynomial's value at x^2.
  pub pair_folds : (beta : K) (p : List K) (x : K) → ring.add ring.one ring.one ≢ ring.zero → x ≢ ring.zero
      → folded_pair ring inverse beta x (value ring p x) (value ring p (ring.neg x)) ≡ value ring (folded ring beta p) (ring.mul x x)
  pair_folds beta p x two nonzero =
      halves_fold laws.of_ring (half_of ring inverse) (inverse x) x beta p (laws.mul_inverse (ring.add ring.one ring.one) two) (laws.mul_inverse x nonzero)

  module _ (adicity : ℕ) (root : ℕ → K) (generator : K) (two_adic : TwoAdicLaws ring adicity root generator) where
    pub two_nonzero : ring.add ring.one ring.one ≢ ring.zero
    two_nonzero e = two_adic.odd (unique_neg laws.of_ring ring.one ring.one e)

    module _ (c : TwoAdicCoset K) (valid : IsTwoAdicCoset ring adicity c) (k : ℕ) (size : c.log_size ≡ suc k) where
      -- half way round the coset lies the opposite point
      pub opposite_point : (i : ℕ) → coset_point ring root c (i + 2 ^ k) ≡ ring.neg (coset_point ring root c i)
      opposite_point i =
          let w = root c.log_size in
          let within : c.log_size ≤ adicity = valid.within in
          let minus : power ring w (2 ^ k) ≡ ring.neg ring.one
          = ap (λ n. power ring (root n) (2 ^ k)) size ∙ sym (squarings_is_power laws.of_ring (root (suc k)) k) ∙ halfway laws adicity root generator two_adic k (omega arith) in
          ap (ring.mul c.shift) (power-add laws.of_ring w i (2 ^ k) ∙ ap (ring.mul (power ring w i)) minus) ∙
          solve laws.of_ring (c.shift ∷ power ring w i ∷ []) (v0 ⊗ (v1 ⊗ opposite_of unit)) (opposite_of (v0 ⊗ v1)) refl

      -- the square of point i is point i of the squares' coset
      pub squared_point : (i : ℕ) → ring.mul (coset_point ring root c i) (coset_point ring root c i) ≡ coset_point ring root (squared_coset ring c) i
      squared_point i =
          let w = root c.log_size in
          let within : c.log_size ≤ adicity = valid.within in
          let less : c.log_size - 1 ≡ k = omega arith in
          let square : ring.mul w w ≡ root (c.log_size - 1) = ap (λ n. ring.mul (root n) (root n)) size ∙ two_adic.root_square k (omega arith) ∙ ap root (sym less) in
          solve laws.of_ring (c.shift ∷ power ring w i ∷ []) (v0 ⊗ v1 ⊗ (v0 ⊗ v1)) (v0 ⊗ v0 ⊗ (v1 ⊗ v1)) refl ∙
          ap (ring.mul (ring.mul c.shift c.shift)) (sym (power-mul laws.of_ring w w i) ∙ ap (λ t. power ring t i) square)

      pub squares_valid : IsTwoAdicCoset ring adicity (squared_coset ring c)
      squares_valid =
          let within : c.log_size ≤ adicity = valid.within in
          record { shift_nonzero = nonzero_product laws c.shift c.shift valid.shift_nonzero valid.shift_nonzero; within = omega arith }

      -- The values of a polynomial at the points i and i + 2^k fold to the folded polynomial's value at point i of the squares' coset.
      pub points_fold : (beta : K) (p : List K) (i : ℕ)
          → folded_pair ring inverse beta (coset_point ring root c i) (value ring p (coset_point ring root c i)) (value ring p (coset_point ring root c (i + 2 ^ k)))
          ≡ value ring (folded ring beta p) (coset_point ring root (squared_coset ring c) i)
      points_fold beta p i =
          let x = coset_point ring root c i in
          ap (λ y. folded_pair ring inverse beta x (value ring p x) (value ring p y)) (opposite_point i) ∙
          pair_folds beta p x two_nonzero (point_nonzero laws adicity root generator two_adic c valid i) ∙
          ap (value ring (folded ring beta p)) (squared_point i)

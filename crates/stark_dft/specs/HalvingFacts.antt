-- A polynomial in halves: the even coefficients and the odd ones, at the square of a point.
use Rattle.std.specs.Prelude.{◌≡◌, ℕ, zero, suc, ◌+◌, [], ◌∷◌, refl}
use Rattle.std.proofs.Common.{ap, ◌∙◌, arith}
use Rattle.stark_support.specs.Ring.{RingOps, RingLaws, difference}
use Rattle.stark_support.specs.RingSolver.{solve, nothing, opposite_of, ◌⊕◌, ◌⊖◌, ◌⊗◌, v0, v1, v2, v3, v4}
use Rattle.stark_support.specs.Polynomial.{value}
use Rattle.stark_dft.specs.Strided.{strided}

two_more : (m : ℕ) → suc m + suc m ≡ suc (suc (m + m))
two_more m = omega arith

step_twice : (q h : ℕ) → q + h + h ≡ q + (h + h)
step_twice q h = omega arith

step_between : (q h : ℕ) → q + h + h + h ≡ q + h + (h + h)
step_between q h = omega arith

module _ {K : Type 0} {ring : RingOps K} (laws : RingLaws ring) where
  -- p(x) = e(x^2) + x o(x^2)
  pub in_halves : (f : ℕ → K) (q h n : ℕ) (x : K) → value ring (strided f q h (n + n)) x
      ≡ ring.add (value ring (strided f q (h + h) n) (ring.mul x x)) (ring.mul x (value ring (strided f (q + h) (h + h) n) (ring.mul x x)))
  in_halves f q h zero x = solve laws (x ∷ []) nothing (nothing ⊕ v0 ⊗ nothing) refl
  in_halves f q h (suc m) x =
      let y = ring.mul x x in
      let even : K = value ring (strided f (q + (h + h)) (h + h) m) y in
      let odd : K = value ring (strided f (q + h + (h + h)) (h + h) m) y in
      let rest : value ring (strided f (q + h + h) h (m + m)) x ≡ ring.add even (ring.mul x odd) =
      in_halves f (q + h + h) h m x
      ∙ ap (λ j. ring.add (value ring (strided f j (h + h) m) y) (ring.mul x (value ring (strided f (q + h + h + h) (h + h) m) y))) (step_twice q h)
      ∙ ap (λ j. ring.add even (ring.mul x (value ring (strided f j (h + h) m) y))) (step_between q h) in
      ap (λ k. value ring (strided f q h k) x) (two_more m)
      ∙ ap (λ r. ring.add (f q) (ring.mul (ring.add (f (q + h)) (ring.mul r x)) x)) rest
      ∙ solve laws (f q ∷ f (q + h) ∷ even ∷ odd ∷ x ∷ []) (v0 ⊕ (v1 ⊕ (v2 ⊕ v4 ⊗ v3) ⊗ v4) ⊗ v4) (v0 ⊕ v2 ⊗ (v4 ⊗ v4) ⊕ v4 ⊗ (v1 ⊕ v3 ⊗ (v4 ⊗ v4))) refl

  pub at_point : (f : ℕ → K) (q h n : ℕ) (x z : K) → ring.mul x x ≡ z → value ring (strided f q h (n + n)) x
      ≡ ring.add (value ring (strided f q (h + h) n) z) (ring.mul x (value ring (strided f (q + h) (h + h) n) z))
  at_point f q h n x z e =
      in_halves f q h n x ∙ ap (λ y. ring.add (value ring (strided f q (h + h) n) y) (ring.mul x (value ring (strided f (q + h) (h + h) n) y))) e

  opposite_square : (x : K) → ring.mul (ring.neg x) (ring.neg x) ≡ ring.mul x x
  opposite_square x = solve laws (x ∷ []) (opposite_of v0 ⊗ opposite_of v0) (v0 ⊗ v0) refl

  minus_product : (e x o : K) → ring.add e (ring.mul (ring.neg x) o) ≡ difference ring e (ring.mul x o)
  minus_product e x o = solve laws (e ∷ x ∷ o ∷ []) (v0 ⊕ opposite_of v1 ⊗ v2) (v0 ⊖ v1 ⊗ v2) refl

  pub at_opposite : (f : ℕ → K) (q h n : ℕ) (x w z : K) → ring.mul x x ≡ z → w ≡ ring.neg x → value ring (strided f q h (n + n)) w
      ≡ difference ring (value ring (strided f q (h + h) n) z) (ring.mul x (value ring (strided f (q + h) (h + h) n) z))
  at_opposite f q h n x w z e is =
      at_point f q h n w z (ap (λ t. ring.mul t t) is ∙ opposite_square x ∙ e)
      ∙ ap (λ t. ring.add (value ring (strided f q (h + h) n) z) (ring.mul t (value ring (strided f (q + h) (h + h) n) z))) is
      ∙ minus_product _ x _

  pub single : (f : ℕ → K) (q h : ℕ) (x : K) → value ring (strided f q h 1) x ≡ f q
  single f q h x = solve laws (f q ∷ x ∷ []) (v0 ⊕ nothing ⊗ v1) v0 refl

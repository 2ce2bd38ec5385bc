-- The batched polynomial's values are what a verifier computes, and its degree is below that of what is batched.
use Rattle.std.specs.Prelude.{◌≡◌, ◌≢◌, ℕ, suc, ◌≤◌, List, [], ◌∷◌, length, map, refl}
use Rattle.std.proofs.Common.{sym, ap, ◌∙◌, arith}
use Rattle.std.proofs.lemmas.List.{length-map}
use Rattle.std.specs.List.{AllByRecursion}
use Rattle.stark_support.specs.Ring.{RingOps, FieldLaws, difference}
use Rattle.stark_support.specs.RingFacts.{same_if_no_difference}
use Rattle.stark_support.specs.RingSolver.{solve, ◌⊕◌, ◌⊖◌, v0, v1}
use Rattle.stark_support.specs.FieldFacts.{quotient_is}
use Rattle.stark_support.specs.Polynomial.{value, value_over, quotient_by_root, scaled, HasDegreeBelow}
use Rattle.stark_support.specs.PolynomialFacts.{factor_step, quotient_length, sum_length, value_of_scaled, value_of_sum}
use Rattle.stark_folding.specs.Reduce.{Opened, reduced, reduced_at, seen_at}

-- A polynomial over the base field is one over the extension.
pub value_embedded : {F K : Type 0} (ring : RingOps K) (embed : F → K) (p : List F) (x : K) → value_over ring embed p x ≡ value ring (map embed p) x
value_embedded ring embed [] x = refl
value_embedded ring embed (c ∷ p) x = ap (λ w. ring.add (embed c) (ring.mul w x)) (value_embedded ring embed p x)

module _ {K : Type 0} {ring : RingOps K} {inverse : K → K} (laws : FieldLaws ring inverse) where
  -- (p(x) - p(z)) / (x - z) is the value of a polynomial.
  pub quotient_value : (p : List K) (z x : K) → x ≢ z → ring.mul (difference ring (value ring p x) (value ring p z)) (inverse (difference ring x z)) ≡ value ring (quotient_by_root ring z p) x
  quotient_value p z x apart =
      let q = value ring (quotient_by_root ring z p) x in
      let nonzero : difference ring x z ≢ ring.zero = λ e. apart (same_if_no_difference laws.of_ring x z e) in
      let product : ring.mul (difference ring x z) q ≡ difference ring (value ring p x) (value ring p z)
      = solve laws.of_ring (ring.mul (difference ring x z) q ∷ value ring p z ∷ []) v0 (v0 ⊕ v1 ⊖ v1) refl ∙ ap (λ t. difference ring t (value ring p z)) (sym (factor_step laws.of_ring z p x)) in
      quotient_is laws (difference ring (value ring p x) (value ring p z)) (difference ring x z) q nonzero product

  -- What the verifier computes from true claims is the batched polynomial's value.
  pub reduced_value : (alpha x : K) (os : List (Opened K)) → AllByRecursion (λ o. x ≢ o.1) os → reduced_at ring inverse alpha x (map (seen_at ring x) os) ≡ value ring (reduced ring alpha os) x
  unfolding reduced reduced_at
  reduced_value alpha x [] apart = refl
  reduced_value alpha x (o ∷ os) apart =
      ap (λ t. ring.add t (ring.mul alpha (reduced_at ring inverse alpha x (map (seen_at ring x) os)))) (quotient_value o.0 o.1 x apart.0) ∙
      ap (λ t. ring.add (value ring (quotient_by_root ring o.1 o.0) x) (ring.mul alpha t)) (reduced_value alpha x os apart.1) ∙
      ap (ring.add (value ring (quotient_by_root ring o.1 o.0) x)) (sym (value_of_scaled laws.of_ring alpha (reduced ring alpha os) x)) ∙
      sym (value_of_sum laws.of_ring (quotient_by_root ring o.1 o.0) (scaled ring alpha (reduced ring alpha os)) x)

module _ {K : Type 0} (ring : RingOps K) where
  -- The degree of what is batched is below that of each column.
  pub reduced_length : (alpha : K) (n : ℕ) (os : List (Opened K)) → AllByRecursion (λ (o : Opened K). HasDegreeBelow (suc n) o.0) os → HasDegreeBelow n (reduced ring alpha os)
  unfolding reduced
  reduced_length alpha n [] below = omega arith
  reduced_length alpha n (o ∷ os) below =
      let first : length o.0 ≤ suc n = below.0 in
      let rest : HasDegreeBelow n (reduced ring alpha os) = reduced_length alpha n os below.1 in
      sum_length ring (quotient_by_root ring o.1 o.0) (scaled ring alpha (reduced ring alpha os)) n
      (omega (arith, quotient_length ring o.1 o.0)) (rw (length-map (reduced ring alpha os) (ring.mul alpha)) rest)

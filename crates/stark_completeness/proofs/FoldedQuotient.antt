-- The folded constraint of columns that satisfy an AIR is Z_H times a polynomial.
use Rattle.std.proofs.Common.{◌≡◌, ◌∙◌, ap, sym, arith, refl, ℕ, suc, ◌+◌, ◌-◌, ◌<◌, ◌≤◌, List, [], ◌∷◌, length}
use Rattle.std.proofs.lemmas.Nat.{pow_pos}
use Rattle.std.specs.List.{AllByRecursion}
use Rattle.stark_support.specs.Ring.{RingOps, RingLaws, FieldLaws}
use Rattle.stark_support.specs.RingSolver.{solve, nothing, ◌⊕◌, ◌⊗◌, v0}
use Rattle.stark_support.specs.Powers.{power}
use Rattle.stark_support.specs.TwoAdic.{HasOrder}
use Rattle.stark_support.specs.Coset.{subgroup_vanishing}
use Rattle.stark_support.specs.DivisionFacts.{VanishingQuotient, vanishing_quotient}
use Rattle.stark_support.specs.Polynomial.{value, HasDegreeBelow}
use Rattle.stark_parts.specs.Folded.{folded}
use Rattle.stark_security.specs.ConstraintPolynomial.{AirInstance, Columns, height, constraints_at, folded_at, folded_polynomial}
use Rattle.stark_parts.specs.ConstraintBound.{greatest_bound}
use Rattle.stark_security.specs.BadValues.{ColumnsFit, Satisfies, point}
use Rattle.stark_security.proofs.ConstraintSteps.{value_of_folded}
use Rattle.stark_security.proofs.ConstraintDegrees.{degree_of_folded}

-- Zeros fold to zero.
folded_of_zeros : {K : Type 0} {ring : RingOps K} (laws : RingLaws ring) (a : K) (cs : List K) → AllByRecursion (λ c. c ≡ ring.zero) cs → folded ring a cs ≡ ring.zero
folded_of_zeros laws a [] zeros = refl
folded_of_zeros {ring = ring} laws a (c ∷ cs) zeros =
    ap (λ w. ring.add (ring.mul (power ring a (length cs)) w) (folded ring a cs)) zeros.0 ∙
    ap (ring.add (ring.mul (power ring a (length cs)) ring.zero)) (folded_of_zeros laws a cs zeros.1) ∙
    solve laws (power ring a (length cs) ∷ []) (v0 ⊗ nothing ⊕ nothing) nothing refl

within : (q l bound n size : ℕ) → q ≤ l - n → l ≤ suc bound → bound < n + size → q ≤ size
within q l bound n size quotient whole small = omega (arith, quotient, whole, small)

module _ {F E : Type 0} (i : AirInstance F E) (laws : FieldLaws i.ring i.inverse) (order : HasOrder i.ring (i.embed i.generator) (height i))
    (columns : Columns F E) (satisfied : Satisfies i columns) (a : E) where
  -- Z_H divides the folded constraint.
  pub folded_quotient : VanishingQuotient i.ring (height i) (folded_polynomial i columns a)
  folded_quotient =
      vanishing_quotient laws (i.embed i.generator) (height i) (folded_polynomial i columns a) (pow_pos i.log_size) order
      (λ k below. value_of_folded i laws.of_ring columns a (point i k) ∙ folded_of_zeros laws.of_ring a (constraints_at i columns (point i k)) (satisfied k below))

  -- At each point the folded constraint is Z_H times the quotient.
  pub folded_divides : (x : E) → folded_at i columns a x ≡ i.ring.mul (subgroup_vanishing i.ring (height i) x) (value i.ring folded_quotient.quotient x)
  folded_divides x = sym (value_of_folded i laws.of_ring columns a x) ∙ folded_quotient.divides x

  -- The quotient's degree is below a size that the constraints' greatest bound exceeds by less than the height.
  pub quotient_degree : (m size : ℕ) → ColumnsFit m columns → greatest_bound m (height i) i.constraints < height i + size → HasDegreeBelow size folded_quotient.quotient
  quotient_degree m size fit small =
      within (length folded_quotient.quotient) (length (folded_polynomial i columns a)) (greatest_bound m (height i) i.constraints) (height i) size
      folded_quotient.bounded (degree_of_folded i m columns fit a) small

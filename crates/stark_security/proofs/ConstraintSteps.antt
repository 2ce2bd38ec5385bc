-- The value of a constraint's polynomial is the constraint's value, since a map that keeps the operations keeps each formula.
use Rattle.std.proofs.Common.{◌≡◌, ◌∙◌, ap, sym, refl, List, [], ◌∷◌, map, length}
use Rattle.std.proofs.lemmas.List.{length-map}
use Rattle.stark_support.specs.Ring.{RingOps, RingLaws, difference as ring_difference}
use Rattle.stark_support.specs.Operations.{ring_operations}
use Rattle.stark_support.specs.Powers.{power}
use Rattle.stark_support.specs.Coset.{subgroup_vanishing}
use Rattle.stark_support.specs.KeepsRing.{KeepsRing, value_keeps, kept_sum, kept_product, kept_difference, kept_power, kept_power_sum, kept_value_over}
use Rattle.stark_support.specs.Polynomial.{value as polynomial_value, polynomial_ring, indeterminate, constant_polynomial}
use Rattle.stark_support.specs.PolynomialFacts.{value_of_constant, value_of_indeterminate}
use Rattle.stark_support.specs.RecompositionPolynomial.{value_of_recomposition}
use Rattle.stark_air.specs.Tree.{Tree, Constraint, base, extension, constant, main_current, main_next, preprocessed_current, preprocessed_next, public_value, periodic_value, first_row, last_row, transition, sum, difference, product, negation}
use Rattle.stark_air.specs.Value.{value, constraint_values}
use Rattle.stark_parts.specs.Folded.{folded}
use Rattle.stark_security.specs.ConstraintPolynomial.{AirInstance, Columns, height, next_point, environment_at, constraints_at, constraint_polynomials, folded_at, folded_polynomial, quotient_at, equation_polynomial}

module _ {G H : Type 0} {from : RingOps G} {to : RingOps H} {f : G → H} (keeps : KeepsRing from to f) where
  pub keeps_folded : (x : G) (a : H) (cs : List G) → f x ≡ a → f (folded from x cs) ≡ folded to a (map f cs)
  keeps_folded x a [] h = keeps.zero
  keeps_folded x a (c ∷ cs) h =
      kept_sum keeps _ _ _ _ (kept_product keeps _ _ _ _ (kept_power keeps x a (length cs) h ∙ ap (power to a) (sym (length-map cs f))) refl) (keeps_folded x a cs h)

  module _ {F E : Type 0} (i : AirInstance F E) (low : E → G) (high : E → H) (same : (c : E) → f (low c) ≡ high c) (columns : Columns F E) (x : G) (a : H) (point : f x ≡ a) where
    kept_next : f (next_point i from low x) ≡ next_point i to high a
    kept_next = kept_product keeps _ _ _ _ (same _) point

    pub keeps_tree : (t : Tree F) → f (value (ring_operations from (λ k. low (i.embed k))) (environment_at i from low columns x) t)
        ≡ value (ring_operations to (λ k. high (i.embed k))) (environment_at i to high columns a) t
    keeps_tree (constant k) = same (i.embed k)
    keeps_tree (main_current c) = kept_value_over keeps low high same _ x a point
    keeps_tree (main_next c) = kept_value_over keeps low high same _ _ _ kept_next
    keeps_tree (preprocessed_current c) = kept_value_over keeps low high same _ x a point
    keeps_tree (preprocessed_next c) = kept_value_over keeps low high same _ _ _ kept_next
    keeps_tree (public_value k) = same _
    keeps_tree (periodic_value c) = kept_value_over keeps (λ k. low (i.embed k)) (λ k. high (i.embed k)) (λ k. same (i.embed k)) _ _ _ (kept_power keeps x a _ point)
    keeps_tree first_row = kept_power_sum keeps x a (height i) point
    keeps_tree last_row = kept_product keeps _ _ _ _ (same _) (kept_power_sum keeps _ _ (height i) kept_next)
    keeps_tree transition = kept_difference keeps _ _ _ _ point (same _)
    keeps_tree (sum t u) = kept_sum keeps _ _ _ _ (keeps_tree t) (keeps_tree u)
    keeps_tree (difference t u) = kept_difference keeps _ _ _ _ (keeps_tree t) (keeps_tree u)
    keeps_tree (product t u) = kept_product keeps _ _ _ _ (keeps_tree t) (keeps_tree u)
    keeps_tree (negation t) = keeps.neg _ ∙ ap to.neg (keeps_tree t)

    pub keeps_constraints : (cs : List (Constraint F)) → map f (constraint_values (ring_operations from (λ k. low (i.embed k))) (environment_at i from low columns x) cs)
        ≡ constraint_values (ring_operations to (λ k. high (i.embed k))) (environment_at i to high columns a) cs
    keeps_constraints [] = refl
    keeps_constraints (base t ∷ cs) =
        ap (λ w. w ∷ map f (constraint_values (ring_operations from (λ k. low (i.embed k))) (environment_at i from low columns x) cs)) (keeps_tree t)
        ∙ ap (λ ws. value (ring_operations to (λ k. high (i.embed k))) (environment_at i to high columns a) t ∷ ws) (keeps_constraints cs)
    keeps_constraints (extension t ∷ cs) =
        ap (λ w. w ∷ map f (constraint_values (ring_operations from (λ k. low (i.embed k))) (environment_at i from low columns x) cs)) (keeps_tree t)
        ∙ ap (λ ws. value (ring_operations to (λ k. high (i.embed k))) (environment_at i to high columns a) t ∷ ws) (keeps_constraints cs)

module _ {F E : Type 0} (i : AirInstance F E) (laws : RingLaws i.ring) (columns : Columns F E) where
  pub values_of_constraints : (x : E) → map (λ p. polynomial_value i.ring p x) (constraint_polynomials i columns) ≡ constraints_at i columns x
  values_of_constraints x =
      keeps_constraints (value_keeps laws x) i constant_polynomial (λ c. c) (λ c. value_of_constant laws c x) columns (indeterminate i.ring) x (value_of_indeterminate laws x) i.constraints

  -- The folded polynomial's values are the folded values.
  pub value_of_folded : (a x : E) → polynomial_value i.ring (folded_polynomial i columns a) x ≡ folded_at i columns a x
  value_of_folded a x =
      keeps_folded (value_keeps laws x) (constant_polynomial a) a (constraint_polynomials i columns) (value_of_constant laws a x) ∙ ap (folded i.ring a) (values_of_constraints x)

  module _ (shifts : List E) (chunks : List (List (List E))) (a : E) where
    pub value_of_equation : (x : E) → polynomial_value i.ring (equation_polynomial i columns shifts chunks a) x
        ≡ ring_difference i.ring (folded_at i columns a x) (i.ring.mul (subgroup_vanishing i.ring (height i) x) (quotient_at i shifts chunks x))
    value_of_equation x =
        let keeps = value_keeps laws x in
        kept_difference keeps _ _ _ _ (value_of_folded a x)
        (kept_product keeps _ _ _ _ (kept_difference keeps _ ((polynomial_ring i.ring).one) _ _ (kept_power keeps (indeterminate i.ring) _ (height i) (value_of_indeterminate laws x)) keeps.one)
        (value_of_recomposition laws i.inverse (height i) i.basis shifts chunks x))

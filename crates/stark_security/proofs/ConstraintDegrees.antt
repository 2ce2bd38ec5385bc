-- The polynomial of a constraint keeps to the constraint's bound, and the verifier's equation to the bound on bad zetas.
use Rattle.std.proofs.Common.{◌≡◌, ◌∙◌, ap, refl, arith, ℕ, zero, suc, ◌+◌, ◌-◌, ◌*◌, ◌/◌, ◌≤◌, max, List, [], ◌∷◌, map, length, slice_index_or}
use Rattle.std.proofs.lemmas.List.{length-map}
use Rattle.std.proofs.Math.Nat.{mod-add-div}
use Rattle.std.specs.List.{AllByRecursion}
use Rattle.stark_support.specs.Ring.{RingOps}
use Rattle.stark_support.specs.Operations.{ring_operations}
use Rattle.stark_support.specs.Powers.{power, power_sum}
use Rattle.stark_support.specs.Coset.{subgroup_vanishing}
use Rattle.stark_support.specs.Points.{powers_from}
use Rattle.stark_support.specs.PointFacts.{powers_length}
use Rattle.stark_support.specs.InterpolationFacts.{interpolation_length}
use Rattle.stark_support.specs.Periodic.{column_polynomial}
use Rattle.stark_support.specs.Polynomial.{value_over, polynomial_ring, polynomial_product, indeterminate, constant_polynomial, HasDegreeBelow, HasDegreeAtMost}
use Rattle.stark_support.specs.PolynomialFacts.{product_length}
use Rattle.stark_support.specs.DegreeFacts.{at_most_more, degree_of_sum, degree_of_opposite, degree_of_difference, degree_of_power, degree_of_power_sum, degree_of_multiple, degree_of_value_over}
use Rattle.stark_support.specs.RecompositionPolynomial.{ChunksFit, recomposition_polynomial, degree_of_recomposition}
use Rattle.stark_air.specs.Tree.{Tree, Constraint, base, extension, constant, main_current, main_next, preprocessed_current, preprocessed_next, public_value, periodic_value, first_row, last_row, transition, sum, difference, product, negation}
use Rattle.stark_air.specs.Value.{value, constraint_values}
use Rattle.stark_parts.specs.Folded.{folded}
use Rattle.stark_security.specs.ConstraintPolynomial.{AirInstance, Columns, height, next_point, environment_at, constraint_polynomials, folded_polynomial, equation_polynomial}
use Rattle.stark_parts.specs.ConstraintBound.{tree_bound, greatest_bound}
use Rattle.stark_security.specs.DegreeBound.{zeta_bound}
use Rattle.stark_security.specs.BadValues.{ColumnsFit}

pub left_max : (a b : ℕ) → a ≤ max a b
left_max a b = grind arith

pub right_max : (a b : ℕ) → b ≤ max a b
right_max a b = grind arith

left_of_max : (a b d : ℕ) → max a b ≤ d → a ≤ d
left_of_max a b d h = grind (arith, h)

right_of_max : (a b d : ℕ) → max a b ≤ d → b ≤ d
right_of_max a b d h = grind (arith, h)

same_bound : (n : ℕ) → n ≤ n
same_bound n = omega arith

times_one : (n : ℕ) → n * 1 ≤ n
times_one n = omega arith

predecessor : (m n : ℕ) → n ≤ m → n ≤ suc (m - 1)
predecessor m n h = omega arith

before_suc : (k : ℕ) → suc k - 1 ≡ k
before_suc k = omega arith

repeated : (n r k : ℕ) → r * suc k ≤ n → k * r ≤ n - 1
repeated n zero k h = omega arith
repeated n (suc r) k h = omega (arith, h)

quotient_times : (n p : ℕ) → (n / p) * p ≤ n
quotient_times n p = let whole = mod-add-div n p in omega arith

-- of a column as long as its period p, which is repeated n / p times
periodic_bound : (n p : ℕ) → (p - 1) * (n / p) ≤ n - 1
periodic_bound n zero = omega arith
periodic_bound n (suc k) = rw (before_suc k) (repeated n (n / suc k) k (quotient_times n (suc k)))

first_bound : (n : ℕ) → n ≤ suc (n - 1)
first_bound n = omega arith

listed : {A : Type 0} (P : A → Type 0) (xs : List A) (c : ℕ) (d : A) → P d → AllByRecursion P xs → P (slice_index_or xs c d)
listed P [] c d default h = default
listed P (x ∷ xs) zero d default h = h.0
listed P (x ∷ xs) (suc c) d default h = listed P xs c d default h.1

-- constants may be taken into the coefficients first
pub value_of_embedded : {F E G : Type 0} (ring : RingOps G) (above : E → G) (embed : F → E) (p : List F) (x : G) → value_over ring (λ k. above (embed k)) p x ≡ value_over ring above (map embed p) x
value_of_embedded ring above embed [] x = refl
value_of_embedded ring above embed (c ∷ p) x = ap (λ w. ring.add (above (embed c)) (ring.mul w x)) (value_of_embedded ring above embed p x)

module _ {K : Type 0} (ring : RingOps K) where
  column_degree : (m : ℕ) (p q : List K) → HasDegreeBelow m p → HasDegreeAtMost 1 q → HasDegreeAtMost (m - 1) (value_over (polynomial_ring ring) constant_polynomial p q)
  column_degree m p q h k =
      at_most_more ring ((m - 1) * 1) (m - 1) (value_over (polynomial_ring ring) constant_polynomial p q) (times_one (m - 1))
      (degree_of_value_over ring 1 (m - 1) p q (predecessor m (length p) h) k)

  -- The folded constraint keeps to a bound of all constraints.
  pub folded_degree : (d : ℕ) (a : K) (ps : List (List K)) → AllByRecursion (HasDegreeAtMost d) ps → HasDegreeAtMost d (folded (polynomial_ring ring) (constant_polynomial a) ps)
  folded_degree d a [] h = omega arith
  folded_degree d a (p ∷ ps) h =
      degree_of_sum ring d (polynomial_product ring (power (polynomial_ring ring) (constant_polynomial a) (length ps)) p) (folded (polynomial_ring ring) (constant_polynomial a) ps)
      (degree_of_multiple ring d (power (polynomial_ring ring) (constant_polynomial a) (length ps)) p
      (at_most_more ring (length ps * 0) 0 (power (polynomial_ring ring) (constant_polynomial a) (length ps)) (omega arith) (degree_of_power ring 0 (constant_polynomial a) (length ps) (omega arith)))
      h.0)
      (folded_degree d a ps h.1)

module _ {F E : Type 0} (i : AirInstance F E) (m : ℕ) (columns : Columns F E) (fit : ColumnsFit m columns) where
  abbrev shifted : List E
  shifted = next_point i (polynomial_ring i.ring) constant_polynomial (indeterminate i.ring)

  shifted_line : HasDegreeAtMost 1 shifted
  shifted_line = product_length i.ring (constant_polynomial (i.embed i.generator)) (indeterminate i.ring) 0 1 (omega arith) (omega arith)

  -- a periodic column's polynomial is as long as the column
  periodic_length : (column : List F) → length (map i.embed (column_polynomial i.base i.base_inverse i.generator (height i) column)) ≡ length column
  periodic_length column =
      let step = power i.base i.generator (height i / length column) in
      length-map (column_polynomial i.base i.base_inverse i.generator (height i) column) i.embed
      ∙ interpolation_length i.base i.base_inverse (powers_from i.base step 0 (length column)) column (powers_length i.base step 0 (length column))
      ∙ powers_length i.base step 0 (length column)

  periodic_degree : (column : List F) → HasDegreeAtMost (height i - 1)
      (value_over (polynomial_ring i.ring) (λ k. constant_polynomial (i.embed k)) (column_polynomial i.base i.base_inverse i.generator (height i) column) (power (polynomial_ring i.ring) (indeterminate i.ring) (height i / length column)))
  periodic_degree column =
      let p = length column in
      let r = height i / p in
      let q = power (polynomial_ring i.ring) (indeterminate i.ring) r in
      let u = column_polynomial i.base i.base_inverse i.generator (height i) column in
      let w = map i.embed u in
      rw (value_of_embedded (polynomial_ring i.ring) constant_polynomial i.embed u q)
      (at_most_more i.ring ((p - 1) * r) (height i - 1) (value_over (polynomial_ring i.ring) constant_polynomial w q) (periodic_bound (height i) p)
      (degree_of_value_over i.ring r (p - 1) w q (predecessor p (length w) (let same = periodic_length column in omega arith))
      (at_most_more i.ring (r * 1) r q (times_one r) (degree_of_power i.ring 1 (indeterminate i.ring) r (omega arith)))))

  abbrev polynomial_of : Tree F → List E
  polynomial_of t = value (ring_operations (polynomial_ring i.ring) (λ k. constant_polynomial (i.embed k))) (environment_at i (polynomial_ring i.ring) constant_polynomial columns (indeterminate i.ring)) t

  tree_degree : (t : Tree F) → HasDegreeAtMost (tree_bound m (height i) t) (polynomial_of t)
  tree_degree (constant k) = omega arith
  tree_degree (main_current c) = column_degree i.ring m (slice_index_or columns.main c []) (indeterminate i.ring) (listed (HasDegreeBelow m) columns.main c [] (omega arith) fit.main) (omega arith)
  tree_degree (main_next c) = column_degree i.ring m (slice_index_or columns.main c []) shifted (listed (HasDegreeBelow m) columns.main c [] (omega arith) fit.main) shifted_line
  tree_degree (preprocessed_current c) = column_degree i.ring m (slice_index_or columns.preprocessed c []) (indeterminate i.ring) (listed (HasDegreeBelow m) columns.preprocessed c [] (omega arith) fit.preprocessed) (omega arith)
  tree_degree (preprocessed_next c) = column_degree i.ring m (slice_index_or columns.preprocessed c []) shifted (listed (HasDegreeBelow m) columns.preprocessed c [] (omega arith) fit.preprocessed) shifted_line
  tree_degree (public_value k) = omega arith
  tree_degree (periodic_value c) = periodic_degree (slice_index_or i.periodic c [])
  tree_degree first_row = degree_of_power_sum i.ring (height i - 1) (indeterminate i.ring) (height i) (omega arith) (first_bound (height i))
  tree_degree last_row =
      degree_of_multiple i.ring (height i - 1) (constant_polynomial (i.embed i.generator)) (power_sum (polynomial_ring i.ring) shifted (height i)) (omega arith)
      (degree_of_power_sum i.ring (height i - 1) shifted (height i) shifted_line (first_bound (height i)))
  tree_degree transition = degree_of_difference i.ring 1 (indeterminate i.ring) (constant_polynomial (i.inverse (i.embed i.generator))) (omega arith) (omega arith)
  tree_degree (sum t u) =
      degree_of_sum i.ring (max (tree_bound m (height i) t) (tree_bound m (height i) u)) (polynomial_of t) (polynomial_of u)
      (at_most_more i.ring _ _ (polynomial_of t) (left_max (tree_bound m (height i) t) (tree_bound m (height i) u)) (tree_degree t))
      (at_most_more i.ring _ _ (polynomial_of u) (right_max (tree_bound m (height i) t) (tree_bound m (height i) u)) (tree_degree u))
  tree_degree (difference t u) =
      degree_of_difference i.ring (max (tree_bound m (height i) t) (tree_bound m (height i) u)) (polynomial_of t) (polynomial_of u)
      (at_most_more i.ring _ _ (polynomial_of t) (left_max (tree_bound m (height i) t) (tree_bound m (height i) u)) (tree_degree t))
      (at_most_more i.ring _ _ (polynomial_of u) (right_max (tree_bound m (height i) t) (tree_bound m (height i) u)) (tree_degree u))
  tree_degree (product t u) = product_length i.ring (polynomial_of t) (polynomial_of u) (tree_bound m (height i) t) (tree_bound m (height i) u) (tree_degree t) (tree_degree u)
  tree_degree (negation t) = degree_of_opposite i.ring (tree_bound m (height i) t) (polynomial_of t) (tree_degree t)

  constraint_degrees : (d : ℕ) (cs : List (Constraint F)) → greatest_bound m (height i) cs ≤ d
      → AllByRecursion (HasDegreeAtMost d) (constraint_values (ring_operations (polynomial_ring i.ring) (λ k. constant_polynomial (i.embed k))) (environment_at i (polynomial_ring i.ring) constant_polynomial columns (indeterminate i.ring)) cs)
  constraint_degrees d [] h = tt
  constraint_degrees d (base t ∷ cs) h = (
    at_most_more i.ring (tree_bound m (height i) t) d (polynomial_of t) (left_of_max (tree_bound m (height i) t) (greatest_bound m (height i) cs) d h) (tree_degree t),
    constraint_degrees d cs (right_of_max (tree_bound m (height i) t) (greatest_bound m (height i) cs) d h),
  )
  constraint_degrees d (extension t ∷ cs) h = (
    at_most_more i.ring (tree_bound m (height i) t) d (polynomial_of t) (left_of_max (tree_bound m (height i) t) (greatest_bound m (height i) cs) d h) (tree_degree t),
    constraint_degrees d cs (right_of_max (tree_bound m (height i) t) (greatest_bound m (height i) cs) d h),
  )

  pub degree_of_folded : (a : E) → HasDegreeAtMost (greatest_bound m (height i) i.constraints) (folded_polynomial i columns a)
  degree_of_folded a =
      folded_degree i.ring (greatest_bound m (height i) i.constraints) a (constraint_polynomials i columns)
      (constraint_degrees (greatest_bound m (height i) i.constraints) i.constraints (same_bound (greatest_bound m (height i) i.constraints)))

  no_first : (l n k : ℕ) → (0 + l - 1) * n + k ≤ (l - 1) * n + k
  no_first l n k = let same : 0 + l - 1 ≡ l - 1 = omega arith in rw same (omega arith)

  sum_in_turn : (n k l : ℕ) → n + (k + l) ≤ n + k + l
  sum_in_turn n k l = omega arith

  pub degree_of_equation : (shifts : List E) (chunks : List (List (List E))) (a : E) → ChunksFit m chunks
      → HasDegreeAtMost (zeta_bound m (height i) (length shifts) i.constraints) (equation_polynomial i columns shifts chunks a)
  degree_of_equation shifts chunks a chunks_fit =
      let n = height i in
      let d = greatest_bound m n i.constraints in
      let e = n + (length shifts - 1) * n + (m - 1) in
      let vanishing = subgroup_vanishing (polynomial_ring i.ring) n (indeterminate i.ring) in
      let recomposed = recomposition_polynomial i.ring i.inverse n i.basis shifts chunks in
      degree_of_difference i.ring (max d e) (folded_polynomial i columns a) (polynomial_product i.ring vanishing recomposed)
      (at_most_more i.ring d (max d e) (folded_polynomial i columns a) (left_max d e) (degree_of_folded a))
      (at_most_more i.ring e (max d e) (polynomial_product i.ring vanishing recomposed) (right_max d e)
      (at_most_more i.ring (n + ((length shifts - 1) * n + (m - 1))) e (polynomial_product i.ring vanishing recomposed) (sum_in_turn n ((length shifts - 1) * n) (m - 1))
      (product_length i.ring vanishing recomposed n ((length shifts - 1) * n + (m - 1))
      (degree_of_difference i.ring n (power (polynomial_ring i.ring) (indeterminate i.ring) n) (i.ring.one ∷ [])
      (at_most_more i.ring (n * 1) n (power (polynomial_ring i.ring) (indeterminate i.ring) n) (times_one n) (degree_of_power i.ring 1 (indeterminate i.ring) n (omega arith)))
      (omega arith))
      (at_most_more i.ring ((0 + length shifts - 1) * n + (m - 1)) ((length shifts - 1) * n + (m - 1)) recomposed (no_first (length shifts) n (m - 1))
      (degree_of_recomposition i.ring i.inverse n m i.basis [] shifts chunks chunks_fit)))))

-- The recomposition of chunks as a polynomial: the same formula at X. Its values, and its degree.
use Rattle.std.specs.Prelude.{◌≡◌, ℕ, suc, ◌+◌, ◌-◌, ◌*◌, ◌≤◌, List, [], ◌∷◌, ◌++◌, map, length, refl}
use Rattle.std.proofs.Common.{arith}
use Rattle.std.proofs.lemmas.List.{length-append}
use Rattle.std.specs.List.{AllByRecursion}
use Rattle.stark_support.specs.Ring.{RingOps, RingLaws}
use Rattle.stark_support.specs.Powers.{power}
use Rattle.stark_support.specs.Coset.{coset_vanishing}
use Rattle.stark_support.specs.Extension.{basis_sum}
use Rattle.stark_support.specs.Recomposition.{lagrange_factor, recomposition_from, recomposition}
use Rattle.stark_support.specs.Polynomial.{value, polynomial_product, polynomial_ring, indeterminate, constant_polynomial, HasDegreeBelow, HasDegreeAtMost}
use Rattle.stark_support.specs.PolynomialFacts.{value_of_constant, value_of_indeterminate, product_length}
use Rattle.stark_support.specs.KeepsRing.{KeepsRing, value_keeps, kept_sum, kept_product, kept_difference, kept_power}
use Rattle.stark_support.specs.DegreeFacts.{at_most_more, degree_of_sum, degree_of_difference, degree_of_power, degree_of_multiple}

-- The values at x of the chunks' polynomials.
abbrev pub chunk_values : {K : Type 0} → RingOps K → List (List (List K)) → K → List (List K)
chunk_values ring chunks x = map (λ qs. map (λ q. value ring q x) qs) chunks

-- All polynomials of the chunks have degree below m.
abbrev pub ChunksFit : {K : Type 0} → ℕ → List (List (List K)) → Type 0
ChunksFit m chunks = AllByRecursion (AllByRecursion (HasDegreeBelow m)) chunks

-- The coefficients of the recomposition.
abbrev pub recomposition_polynomial : {K : Type 0} → RingOps K → (K → K) → ℕ → List K → List K → List (List (List K)) → List K
recomposition_polynomial ring inverse n basis shifts chunks = recomposition ring (polynomial_ring ring) constant_polynomial inverse n basis shifts chunks (indeterminate ring)

module _ {K E G : Type 0} {from : RingOps E} {to : RingOps G} {f : E → G} (keeps : KeepsRing from to f) (low : K → E) (high : K → G) (same : (c : K) → f (low c) ≡ high c)
    (field : RingOps K) (inverse : K → K) (n : ℕ) (x : E) (a : G) (point : f x ≡ a) where
  pub keeps_vanishing : (s : K) → f (coset_vanishing from low inverse n s x) ≡ coset_vanishing to high inverse n s a
  keeps_vanishing s = kept_difference keeps _ _ _ _ (kept_power keeps _ _ n (kept_product keeps _ _ _ _ point (same (inverse s)))) keeps.one

  keeps_lagrange : (others : List K) (s : K) → f (lagrange_factor field from low inverse n others s x) ≡ lagrange_factor field to high inverse n others s a
  keeps_lagrange [] s = keeps.one
  keeps_lagrange (o ∷ others) s = kept_product keeps _ _ _ _ (kept_product keeps _ _ _ _ (keeps_vanishing o) (same _)) (keeps_lagrange others s)

  keeps_basis_sum : (es : List K) (qs : List E) → f (basis_sum from low es qs) ≡ basis_sum to high es (map f qs)
  keeps_basis_sum [] qs = keeps.zero
  keeps_basis_sum (e ∷ es) [] = keeps.zero
  keeps_basis_sum (e ∷ es) (q ∷ qs) = kept_sum keeps _ _ _ _ (kept_product keeps _ _ _ _ (same e) refl) (keeps_basis_sum es qs)

  pub keeps_recomposition : (basis before shifts : List K) (chunks : List (List E)) → f (recomposition_from field from low inverse n basis before shifts chunks x)
      ≡ recomposition_from field to high inverse n basis before shifts (map (λ vs. map f vs) chunks) a
  keeps_recomposition basis before [] chunks = keeps.zero
  keeps_recomposition basis before (s ∷ after) [] = keeps.zero
  keeps_recomposition basis before (s ∷ after) (q ∷ qs) =
      kept_sum keeps _ _ _ _ (kept_product keeps _ _ _ _ (keeps_lagrange (before ++ after) s) (keeps_basis_sum basis q)) (keeps_recomposition basis (before ++ (s ∷ [])) after qs)

-- The polynomial's values are the recomposition of the chunks' values.
pub value_of_recomposition : {K : Type 0} {ring : RingOps K} (laws : RingLaws ring) (inverse : K → K) (n : ℕ) (basis shifts : List K) (chunks : List (List (List K))) (x : K)
    → value ring (recomposition_polynomial ring inverse n basis shifts chunks) x ≡ recomposition ring ring (λ c. c) inverse n basis shifts (chunk_values ring chunks x) x
value_of_recomposition {ring = ring} laws inverse n basis shifts chunks x =
    keeps_recomposition (value_keeps laws x) constant_polynomial (λ c. c) (λ c. value_of_constant laws c x) ring inverse n (indeterminate ring) x (value_of_indeterminate laws x) basis [] shifts chunks

times_one : (n : ℕ) → n * 1 ≤ n
times_one n = omega arith

predecessor : (m l : ℕ) → l ≤ m → l ≤ suc (m - 1)
predecessor m l h = omega arith

lagrange_step : (n l : ℕ) → (n + 0) + l * n ≤ suc l * n
lagrange_step n l = omega arith

others_count : (b a : ℕ) → b + suc a - 1 ≡ b + a
others_count b a = omega arith

others_bound : (n b a l : ℕ) → l ≡ b + a → l * n ≤ (b + suc a - 1) * n
others_bound n b a l h = rw h (rw (others_count b a) (omega arith))

rest_count : (b a : ℕ) → b + 1 + a - 1 ≡ b + a
rest_count b a = omega arith

rest_bound : (n k b a l : ℕ) → l ≡ b + 1 → (l + a - 1) * n + k ≤ (b + suc a - 1) * n + k
rest_bound n k b a l h = rw h (rw (others_count b a, rest_count b a) (omega arith))

module _ {K : Type 0} (ring : RingOps K) (inverse : K → K) (n : ℕ) where
  pub degree_of_vanishing : (s : K) → HasDegreeAtMost n (coset_vanishing (polynomial_ring ring) constant_polynomial inverse n s (indeterminate ring))
  degree_of_vanishing s =
      let line = polynomial_product ring (indeterminate ring) (constant_polynomial (inverse s)) in
      degree_of_difference ring n (power (polynomial_ring ring) line n) (ring.one ∷ [])
      (at_most_more ring (n * 1) n (power (polynomial_ring ring) line n) (times_one n)
      (degree_of_power ring 1 line n (product_length ring (indeterminate ring) (constant_polynomial (inverse s)) 1 0 (omega arith) (omega arith))))
      (omega arith)

  degree_of_lagrange : (others : List K) (s : K) → HasDegreeAtMost (length others * n) (lagrange_factor ring (polynomial_ring ring) constant_polynomial inverse n others s (indeterminate ring))
  degree_of_lagrange [] s = omega arith
  degree_of_lagrange (o ∷ others) s =
      let vanishing = coset_vanishing (polynomial_ring ring) constant_polynomial inverse n o (indeterminate ring) in
      let weight = constant_polynomial (inverse (coset_vanishing ring (λ c. c) inverse n o s)) in
      let rest = lagrange_factor ring (polynomial_ring ring) constant_polynomial inverse n others s (indeterminate ring) in
      at_most_more ring ((n + 0) + length others * n) (suc (length others) * n) (polynomial_product ring (polynomial_product ring vanishing weight) rest) (lagrange_step n (length others))
      (product_length ring (polynomial_product ring vanishing weight) rest (n + 0) (length others * n)
      (product_length ring vanishing weight n 0 (degree_of_vanishing o) (omega arith))
      (degree_of_lagrange others s))

  degree_of_basis_sum : (m : ℕ) (es : List K) (qs : List (List K)) → AllByRecursion (HasDegreeBelow m) qs → HasDegreeAtMost (m - 1) (basis_sum (polynomial_ring ring) constant_polynomial es qs)
  degree_of_basis_sum m [] qs h = omega arith
  degree_of_basis_sum m (e ∷ es) [] h = omega arith
  degree_of_basis_sum m (e ∷ es) (q ∷ qs) h =
      degree_of_sum ring (m - 1) (polynomial_product ring (constant_polynomial e) q) (basis_sum (polynomial_ring ring) constant_polynomial es qs)
      (degree_of_multiple ring (m - 1) (constant_polynomial e) q (omega arith) (predecessor m (length q) h.0))
      (degree_of_basis_sum m es qs h.1)

  -- The recomposition of chunks of degree below m on l cosets has degree at most (l - 1) n + m - 1.
  pub degree_of_recomposition : (m : ℕ) (basis before shifts : List K) (chunks : List (List (List K))) → ChunksFit m chunks
      → HasDegreeAtMost ((length before + length shifts - 1) * n + (m - 1)) (recomposition_from ring (polynomial_ring ring) constant_polynomial inverse n basis before shifts chunks (indeterminate ring))
  degree_of_recomposition m basis before [] chunks h = omega arith
  degree_of_recomposition m basis before (s ∷ after) [] h = omega arith
  degree_of_recomposition m basis before (s ∷ after) (q ∷ qs) h =
      let bound = (length before + suc (length after) - 1) * n in
      let factor = lagrange_factor ring (polynomial_ring ring) constant_polynomial inverse n (before ++ after) s (indeterminate ring) in
      let element = basis_sum (polynomial_ring ring) constant_polynomial basis q in
      let rest = recomposition_from ring (polynomial_ring ring) constant_polynomial inverse n basis (before ++ (s ∷ [])) after qs (indeterminate ring) in
      degree_of_sum ring (bound + (m - 1)) (polynomial_product ring factor element) rest
      (product_length ring factor element bound (m - 1)
      (at_most_more ring (length (before ++ after) * n) bound factor (others_bound n (length before) (length after) (length (before ++ after)) (length-append before after)) (degree_of_lagrange (before ++ after) s))
      (degree_of_basis_sum m basis q h.0))
      (at_most_more ring ((length (before ++ (s ∷ [])) + length after - 1) * n + (m - 1)) (bound + (m - 1)) rest
      (rest_bound n (m - 1) (length before) (length after) (length (before ++ (s ∷ []))) (length-append before (s ∷ [])))
      (degree_of_recomposition m basis (before ++ (s ∷ [])) after qs h.1))

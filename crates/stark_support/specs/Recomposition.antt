-- The quotient that chunks on disjoint cosets of one subgroup recompose to.
use Rattle.std.specs.Prelude.{ℕ, ◌^◌, List, [], ◌∷◌, ◌++◌}
use Rattle.stark_support.specs.Ring.{RingOps}
use Rattle.stark_support.specs.Coset.{TwoAdicCoset, coset_vanishing}
use Rattle.stark_support.specs.Extension.{basis_sum}

-- The product of Z_o(x) / Z_o(s) over the cosets with the shifts in a list.
abbrev pub lagrange_factor : {K : Type 0} {E : Type 0} → RingOps K → RingOps E → (K → E) → (K → K) → ℕ → List K → K → E → E
lagrange_factor field ring constant inverse n [] s x = ring.one
lagrange_factor field ring constant inverse n (o ∷ others) s x =
    ring.mul (ring.mul (coset_vanishing ring constant inverse n o x) (constant (inverse (coset_vanishing field (λ c. c) inverse n o s))))
    (lagrange_factor field ring constant inverse n others s x)

-- What lagrange_factor divides by, inverted: the product of 1 / Z_o(s) over the cosets with the shifts in a list.
abbrev pub lagrange_weight : {K : Type 0} → RingOps K → (K → K) → ℕ → List K → K → K
lagrange_weight ring inverse n [] s = ring.one
lagrange_weight ring inverse n (o ∷ others) s = ring.mul (inverse (coset_vanishing ring (λ c. c) inverse n o s)) (lagrange_weight ring inverse n others s)

-- The sum over i of value i over the product, over the other cosets, of Z_j(first point of coset i), from some place on;
-- `before` are the shifts up to there.
abbrev pub weighted_sum_from : {K : Type 0} → RingOps K → (K → K) → ℕ → List K → List K → List K → K
weighted_sum_from ring inverse n before [] values = ring.zero
weighted_sum_from ring inverse n before (s ∷ after) [] = ring.zero
weighted_sum_from ring inverse n before (s ∷ after) (v ∷ values) =
    ring.add (ring.mul (lagrange_weight ring inverse n (before ++ after) s) v) (weighted_sum_from ring inverse n (before ++ (s ∷ [])) after values)

abbrev pub weighted_sum : {K : Type 0} → RingOps K → (K → K) → ℕ → List K → List K → K
weighted_sum ring inverse n shifts values = weighted_sum_from ring inverse n [] shifts values

-- What the chunks from some place on give; `before` are the shifts up to there.
abbrev pub recomposition_from : {K : Type 0} {E : Type 0} → RingOps K → RingOps E → (K → E) → (K → K) → ℕ → List K → List K → List K → List (List E) → E → E
recomposition_from field ring constant inverse n basis before [] chunks x = ring.zero
recomposition_from field ring constant inverse n basis before (s ∷ after) [] x = ring.zero
recomposition_from field ring constant inverse n basis before (s ∷ after) (q ∷ qs) x =
    ring.add (ring.mul (lagrange_factor field ring constant inverse n (before ++ after) s x) (basis_sum ring constant basis q))
    (recomposition_from field ring constant inverse n basis (before ++ (s ∷ [])) after qs x)

-- The sum over i of L_i(x) times the value of chunk i, on the cosets of n points with these shifts: L_i is the product
-- over the other cosets of Z_j(x) / Z_j(first point of coset i), and one where there is no other.
abbrev pub recomposition : {K : Type 0} {E : Type 0} → RingOps K → RingOps E → (K → E) → (K → K) → ℕ → List K → List K → List (List E) → E → E
recomposition field ring constant inverse n basis shifts chunks x = recomposition_from field ring constant inverse n basis [] shifts chunks x

-- the logarithm of the size that cosets of one subgroup share, 0 where there is none
abbrev pub common_log_size : {K : Type 0} → List (TwoAdicCoset K) → ℕ
common_log_size [] = 0
common_log_size (c ∷ cs) = c.log_size

abbrev pub common_size : {K : Type 0} → List (TwoAdicCoset K) → ℕ
common_size cosets = 2 ^ common_log_size cosets

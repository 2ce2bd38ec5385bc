-- A query's way through the layers of a folding.
use Rattle.std.specs.Prelude.{ℕ, zero, suc, ◌+◌, ◌-◌, ◌^◌, ◌%◌, cond, ltb, List, [], ◌∷◌}
use Rattle.stark_support.specs.Ring.{RingOps}
use Rattle.stark_support.specs.Polynomial.{value}
use Rattle.stark_support.specs.Coset.{TwoAdicCoset, coset_point}
use Rattle.stark_folding.specs.Fold.{folded, folded_pair, squared_coset}

-- half the number of a coset's points
abbrev pub half_size : {K : Type 0} → TwoAdicCoset K → ℕ
half_size c = 2 ^ (c.log_size - 1)

-- The value at place i and the one opposite fold to the value of the next layer at place i mod half the size.
abbrev pub next_value : {K : Type 0} → RingOps K → (K → K) → (ℕ → K) → TwoAdicCoset K → K → ℕ → K → K → K
next_value ring inverse root c beta i v s =
    cond (ltb i (half_size c))
    (folded_pair ring inverse beta (coset_point ring root c (i % half_size c)) v s)
    (folded_pair ring inverse beta (coset_point ring root c (i % half_size c)) s v)

-- Where the value at a place of a layer leads, by the drawn betas and the values at the opposite points.
unfoldable pub walked : {K : Type 0} → RingOps K → (K → K) → (ℕ → K) → TwoAdicCoset K → ℕ → K → List (K × K) → K
walked ring inverse root c i v [] = v
walked ring inverse root c i v (step ∷ steps) = walked ring inverse root (squared_coset ring c) (i % half_size c) (next_value ring inverse root c step.0 i v step.1) steps

-- The opposite place.
abbrev pub opposite_place : {K : Type 0} → TwoAdicCoset K → ℕ → ℕ
opposite_place c i = cond (ltb i (half_size c)) (i % half_size c + half_size c) (i % half_size c)

-- The steps of an honest prover, whose layers are the values of the folded polynomials.
unfoldable pub steps_of_layers : {K : Type 0} → RingOps K → (ℕ → K) → TwoAdicCoset K → ℕ → List K → List K → List (K × K)
steps_of_layers ring root c i p [] = []
steps_of_layers ring root c i p (beta ∷ betas) =
    (beta, value ring p (coset_point ring root c (opposite_place c i))) ∷ steps_of_layers ring root (squared_coset ring c) (i % half_size c) (folded ring beta p) betas

-- A polynomial folded by each beta in turn.
unfoldable pub folded_all : {K : Type 0} → RingOps K → List K → List K → List K
folded_all ring [] p = p
folded_all ring (beta ∷ betas) p = folded_all ring betas (folded ring beta p)

-- Its coset, and the place there.
unfoldable pub last_coset : {K : Type 0} → RingOps K → ℕ → TwoAdicCoset K → TwoAdicCoset K
last_coset ring zero c = c
last_coset ring (suc n) c = last_coset ring n (squared_coset ring c)

unfoldable pub last_place : {K : Type 0} → RingOps K → ℕ → TwoAdicCoset K → ℕ → ℕ
last_place ring zero c i = i
last_place ring (suc n) c i = last_place ring n (squared_coset ring c) (i % half_size c)

-- The points of the cosets of a group that one element generates.
use Rattle.std.specs.Prelude.{ℕ, zero, suc, List, [], ◌∷◌, ◌++◌, length, map}
use Rattle.stark_support.specs.Ring.{RingOps}
use Rattle.stark_support.specs.Powers.{power}
use Rattle.stark_support.specs.Polynomial.{IsWithoutRepeats}
use Rattle.stark_support.specs.Interpolation.{interpolation}

-- The n powers of g from the m-th on.
abbrev pub powers_from : {K : Type 0} → RingOps K → K → ℕ → ℕ → List K
powers_from ring g m zero = []
powers_from ring g m (suc n) = power ring g m ∷ powers_from ring g (suc m) n

-- The points of the cosets with these shifts, of the group of n points that g generates.
abbrev pub coset_points : {K : Type 0} → RingOps K → K → ℕ → List K → List K
coset_points ring g n [] = []
coset_points ring g n (s ∷ shifts) = map (ring.mul s) (powers_from ring g 0 n) ++ coset_points ring g n shifts

-- The cosets of the group of n points with these shifts don't meet.
abbrev pub CosetsDisjoint : {K : Type 0} → RingOps K → ℕ → List K → Type 0
CosetsDisjoint ring n shifts = IsWithoutRepeats (map (λ s. power ring s n) shifts)

-- The polynomial of degree below their number that takes the values at the powers of g, from the zeroth on.
abbrev pub interpolation_at_powers : {K : Type 0} → RingOps K → (K → K) → K → List K → List K
interpolation_at_powers ring inverse g values = interpolation ring inverse (powers_from ring g 0 (length values)) values

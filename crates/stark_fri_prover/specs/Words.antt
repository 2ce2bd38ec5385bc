-- Words of polynomials over an extension, by the coordinates of their coefficients.
use Rattle.std.specs.Prelude.{ℕ, List, get_or, map}
use Rattle.std.specs.List.{range_with_len}
use Rattle.stark_support.specs.Coset.{coset_from}
use Rattle.stark_support.specs.Extension.{basis_sum}
use Rattle.stark_support.specs.Ring.{RingOps}
use Rattle.stark_support.specs.Scheme.{matrix_row}
use Rattle.stark_fri_prover.specs.Batching.{IsWordOf}

-- An element's coordinate at a place of the basis.
abbrev pub coordinate_at : {F E : Type 0} → (E → List F) → F → ℕ → E → F
coordinate_at coordinates zero place element = get_or (coordinates element) place zero

-- For each place of the basis the coefficients' coordinates there.
abbrev pub coordinate_columns : {F E : Type 0} → ℕ → (E → List F) → F → List E → List (List F)
coordinate_columns dimension coordinates zero polynomial = map (λ place. map (coordinate_at coordinates zero place) polynomial) (range_with_len 0 dimension)

-- The element with these coordinates, and the elements of which they stand one after the other.
abbrev pub element_of : {F E : Type 0} → RingOps E → (F → E) → List E → List F → E
element_of ring embed basis row = basis_sum ring (λ c. c) basis (map embed row)

abbrev pub elements_of : {F E : Type 0} → RingOps E → (F → E) → ℕ → List E → List F → ℕ → List E
elements_of ring embed dimension basis coordinates count = map (λ place. element_of ring embed basis (matrix_row coordinates dimension place)) (range_with_len 0 count)

-- The word of a polynomial on a coset of the base field.
abbrev pub IsWordIn : {F E : Type 0} → RingOps E → (F → E) → (ℕ → F) → F → ℕ → List E → List E → Type 0
IsWordIn ring embed root shift log_size polynomial word = IsWordOf ring (λ k. embed (root k)) (coset_from (embed shift) log_size) polynomial word

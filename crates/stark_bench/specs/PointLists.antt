-- Lists of values made of other lists, place by place.
use Rattle.std.specs.Prelude.{◌≡◌, ℕ, ◌+◌, ◌<◌, ◌%◌, List, get_or, length, Some, ◌^◌}
use Rattle.std.specs.List.{slice_get}
use Rattle.stark_support.specs.Coset.{TwoAdicCoset, coset_point, TakesOn, subgroup_vanishing}
use Rattle.stark_support.specs.Ring.{RingOps}
use Rattle.stark_support.specs.Selectors.{first_row_selector, last_row_selector, transition_selector}
use Rattle.stark_support.specs.Subgroup.{group_of}

-- at the first `count` places: the elements of a list over and over, each over the divisor at its place
pub record AreQuotients {K : Type 0} (ring : RingOps K) (inverse : K → K) (elements divisors : List K) (count : ℕ) (over : List K) : Type 0 where
  pub number : length over ≡ count
  pub at_place : (i : ℕ) → i < count → slice_get over i ≡ Some (ring.mul (get_or elements (i % length elements) ring.zero) (inverse (get_or divisors i ring.zero)))

-- a function's values on a coset's points, in row order: those of a list over and over
pub record RepeatOn {K : Type 0} (ring : RingOps K) (root : ℕ → K) (coset : TwoAdicCoset K) (value : K → K) (values : List K) : Type 0 where
  pub some : 0 < length values
  pub at_row : (i : ℕ) → slice_get values (i % length values) ≡ Some (value (coset_point ring root coset i))

-- `count` elements: those of a list over and over
pub record AreRepeated {K : Type 0} (list : List K) (count : ℕ) (all : List K) : Type 0 where
  pub number : length all ≡ count
  pub at_place : (i : ℕ) → i < count → slice_get all i ≡ slice_get list (i % length list)

-- the first `count` places: the factor times the element that lies `further` behind, taken round the end
pub record AreTurned {K : Type 0} (ring : RingOps K) (factor : K) (elements : List K) (further count : ℕ) (all : List K) : Type 0 where
  pub number : length all ≡ count
  pub at_place : (i : ℕ) → i < count → slice_get all i ≡ Some (ring.mul factor (get_or elements ((i + further) % length elements) ring.zero))

-- ---- a subgroup of 2 ^ log_size points, at the points of a coset

-- its vanishing values, over and over
abbrev pub VanishingRepeatsOn : {K : Type 0} → RingOps K → (ℕ → K) → ℕ → TwoAdicCoset K → List K → Type 0
VanishingRepeatsOn ring root log_size coset values = RepeatOn ring root coset (λ x. subgroup_vanishing ring (2 ^ log_size) x) values

-- their inverses
abbrev pub InversesOn : {K : Type 0} → RingOps K → (K → K) → (ℕ → K) → ℕ → TwoAdicCoset K → List K → Type 0
InversesOn ring inverse root log_size coset values = TakesOn ring root coset (λ x. inverse (subgroup_vanishing ring (2 ^ log_size) x)) values

-- its row selectors
abbrev pub FirstRowsOn : {K : Type 0} → RingOps K → (K → K) → (ℕ → K) → ℕ → TwoAdicCoset K → List K → Type 0
FirstRowsOn ring inverse root log_size coset values = TakesOn ring root coset (first_row_selector ring (λ c. c) (group_of inverse (root log_size) log_size)) values

abbrev pub LastRowsOn : {K : Type 0} → RingOps K → (K → K) → (ℕ → K) → ℕ → TwoAdicCoset K → List K → Type 0
LastRowsOn ring inverse root log_size coset values = TakesOn ring root coset (last_row_selector ring (λ c. c) (group_of inverse (root log_size) log_size)) values

abbrev pub TransitionsOn : {K : Type 0} → RingOps K → (K → K) → (ℕ → K) → ℕ → TwoAdicCoset K → List K → Type 0
TransitionsOn ring inverse root log_size coset values = TakesOn ring root coset (transition_selector ring (λ c. c) (group_of inverse (root log_size) log_size)) values

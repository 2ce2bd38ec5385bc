-- Cosets of the groups of roots of one, and their vanishing polynomials.
use Rattle.std.specs.Prelude.{◌≡◌, ◌≢◌, ℕ, ◌-◌, ◌^◌, ◌/◌, ◌%◌, ◌<◌, ◌≤◌, List, length, AllPairs, All, Some}
use Rattle.std.specs.List.{slice_get}
use Rattle.stark_support.specs.Ring.{RingOps, difference}
use Rattle.stark_support.specs.Powers.{power}

-- The coset of `shift` in the group of 2 ^ log_size roots of one.
pub record TwoAdicCoset (K : Type 0) : Type 0 where
  pub shift : K
  pub log_size : ℕ

-- The field has the group, and the shift is one of its units.
pub record IsTwoAdicCoset {K : Type 0} (ring : RingOps K) (adicity : ℕ) (coset : TwoAdicCoset K) : Type 0 where
  pub shift_nonzero : coset.shift ≢ ring.zero
  pub within : coset.log_size ≤ adicity

-- how many points it has
abbrev pub coset_size : {K : Type 0} → TwoAdicCoset K → ℕ
coset_size coset = 2 ^ coset.log_size

-- point i in row order: shift * g ^ i, with g the root of order 2 ^ log_size
abbrev pub coset_point : {K : Type 0} → RingOps K → (ℕ → K) → TwoAdicCoset K → ℕ → K
coset_point ring root coset i = ring.mul coset.shift (power ring (root coset.log_size) i)

-- (x / s) ^ n - 1, where `constant` sends the shift's field to the ring of x
abbrev pub coset_vanishing : {K : Type 0} {E : Type 0} → RingOps E → (K → E) → (K → K) → ℕ → K → E → E
coset_vanishing ring constant inverse n s x = difference ring (power ring (ring.mul x (constant (inverse s))) n) ring.one

-- x ^ n - 1
abbrev pub subgroup_vanishing : {E : Type 0} → RingOps E → ℕ → E → E
subgroup_vanishing ring n x = difference ring (power ring x n) ring.one

-- No point of one is a point of the other.
pub record AreDisjoint {K : Type 0} (ring : RingOps K) (root : ℕ → K) (c : TwoAdicCoset K) (d : TwoAdicCoset K) : Type 0 where
  pub apart : (i j : ℕ) → coset_point ring root c i ≢ coset_point ring root d j

-- Cosets of one subgroup, no two of which have a point in common.
pub record AreDisjointCosets {K : Type 0} (ring : RingOps K) (root : ℕ → K) (log_size : ℕ) (cosets : List (TwoAdicCoset K)) : Type 0 where
  pub one_subgroup : All (λ c. c.log_size ≡ log_size) cosets
  pub disjoint : AllPairs (AreDisjoint ring root) cosets

-- part i of 2 ^ log_parts: the points i, i + 2 ^ log_parts, ..
abbrev pub coset_part : {K : Type 0} → RingOps K → (ℕ → K) → TwoAdicCoset K → ℕ → ℕ → TwoAdicCoset K
coset_part ring root coset log_parts i = record { shift = coset_point ring root coset i; log_size = coset.log_size - log_parts }

-- The parts of a coset in order, of which no two have a point in common; row r is in part r mod their number.
pub record AreParts {K : Type 0} (ring : RingOps K) (root : ℕ → K) (coset : TwoAdicCoset K) (log_parts : ℕ) (parts : List (TwoAdicCoset K)) : Type 0 where
  pub number : length parts ≡ 2 ^ log_parts
  pub part : (i : ℕ) → i < 2 ^ log_parts → slice_get parts i ≡ Some (coset_part ring root coset log_parts i)
  pub disjoint : AreDisjointCosets ring root (coset.log_size - log_parts) parts
  pub row : (r : ℕ) → coset_point ring root coset r ≡ coset_point ring root (coset_part ring root coset log_parts (r % 2 ^ log_parts)) (r / 2 ^ log_parts)

-- The first `count` values of a function on a coset's points, in row order.
pub record AreValuesOn {K : Type 0} (ring : RingOps K) (root : ℕ → K) (coset : TwoAdicCoset K) (count : ℕ) (value : K → K) (values : List K) : Type 0 where
  pub number : length values ≡ count
  pub at_row : (i : ℕ) → i < count → slice_get values i ≡ Some (value (coset_point ring root coset i))

-- The vanishing value of a coset at a point of an extension.
abbrev pub vanishing_at : {K : Type 0} {E : Type 0} → RingOps E → (E → E) → (K → E) → TwoAdicCoset K → E → E
vanishing_at ring inverse embed coset x = coset_vanishing ring (λ c. c) inverse (coset_size coset) (embed coset.shift) x

-- All values of a function on a coset's points, in row order.
abbrev pub TakesOn : {K : Type 0} → RingOps K → (ℕ → K) → TwoAdicCoset K → (K → K) → List K → Type 0
TakesOn ring root coset value values = AreValuesOn ring root coset (coset_size coset) value values

-- The points of a coset differ pairwise.
abbrev pub PointsDiffer : {K : Type 0} → RingOps K → (ℕ → K) → TwoAdicCoset K → Type 0
PointsDiffer ring root coset = (i j : ℕ) → i < j → j < coset_size coset → coset_point ring root coset i ≢ coset_point ring root coset j

-- The vanishing value of a coset is the same at all points of another,
abbrev pub VanishesAlikeOn : {K : Type 0} → RingOps K → (K → K) → (ℕ → K) → TwoAdicCoset K → TwoAdicCoset K → Type 0
VanishesAlikeOn {K} ring inverse root other coset =
    (i : ℕ) → vanishing_at ring inverse (λ (c : K). c) coset (coset_point ring root other i) ≡ vanishing_at ring inverse (λ (c : K). c) coset other.shift

-- and zero at none of them.
abbrev pub VanishesNowhereOn : {K : Type 0} → RingOps K → (K → K) → (ℕ → K) → TwoAdicCoset K → TwoAdicCoset K → Type 0
VanishesNowhereOn {K} ring inverse root other coset = (i : ℕ) → vanishing_at ring inverse (λ (c : K). c) coset (coset_point ring root other i) ≢ ring.zero

-- A coset's parts, as many as the number, a power of two.
abbrev pub SplitsInto : {K : Type 0} → RingOps K → (ℕ → K) → TwoAdicCoset K → ℕ → List (TwoAdicCoset K) → Type 0
SplitsInto ring root coset number parts = (log_parts : ℕ) → 2 ^ log_parts ≡ number → AreParts ring root coset log_parts parts

-- The coset of a shift and a size.
abbrev pub coset_from : {K : Type 0} → K → ℕ → TwoAdicCoset K
coset_from shift log_size = record { shift = shift; log_size = log_size }

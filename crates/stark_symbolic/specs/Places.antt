-- The places of base and of extension constraints in the order of assertion.
use Rattle.std.specs.Prelude.{◌≡◌, ℕ, ◌+◌, ◌-◌, ◌<◌, ◌≤◌, ◌^◌, min, List, [], ◌∷◌, Some, map, length, All, refl}
use Rattle.std.specs.List.{slice_get}
use Rattle.std.proofs.Common.{ap, arith}
use Rattle.std.proofs.lemmas.List.Elements.{All-nil, All-cons}
use Rattle.stark_support.specs.Ring.{RingOps}
use Rattle.stark_support.specs.Powers.{power}
use Rattle.stark_air.specs.Tree.{Constraint, base, extension}
use Rattle.stark_symbolic.specs.DegreePair.{marked_degrees}
use Rattle.stark_symbolic.specs.declared.leaf_degrees.LeafDegrees.{LeafDegrees}
use Rattle.stark_symbolic.specs.declared.degree_builder.ConstraintDegrees.{ConstraintDegrees}
use Rattle.stark_symbolic.specs.declared.degree_builder.ConstraintDegrees.TheVariants.{Base, Extension}
use Rattle.stark_symbolic.specs.declared.places.ConstraintLayout.{ConstraintLayout}

-- The places of the base constraints, where the first constraint has place n.
abbrev pub base_places : {F : Type 0} → ℕ → List (Constraint F) → List ℕ
base_places n [] = []
base_places n (base t ∷ cs) = n ∷ base_places (n + 1) cs
base_places n (extension t ∷ cs) = base_places (n + 1) cs

-- The places of the extension constraints, where the first constraint has place n.
abbrev pub extension_places : {F : Type 0} → ℕ → List (Constraint F) → List ℕ
extension_places n [] = []
extension_places n (base t ∷ cs) = extension_places (n + 1) cs
extension_places n (extension t ∷ cs) = n ∷ extension_places (n + 1) cs

-- How many constraints have a place, or the greatest number of 64 bits where they are more.
abbrev pub total_of : List ℕ → List ℕ → ℕ
total_of bases extensions = min (length bases + length extensions) (2 ^ 64 - 1)

-- The power of a challenge that belongs to each place, of this many constraints: a ^ (total - 1 - i) to place i.
abbrev pub place_powers : {E : Type 0} → RingOps E → E → ℕ → List ℕ → List E
place_powers ring a total places = map (λ (i : ℕ). power ring a (total - 1 - i)) places

-- Row d has coordinate d of each value, for each d below the dimension.
pub record AreCoordinateRows {F : Type 0} {E : Type 0} (coordinates : E → List F) (dimension : ℕ) (values : List E) (rows : List (List F)) : Type 0 where
  pub number : length rows ≡ dimension
  pub each : (d : ℕ) (row : List F) → slice_get rows d ≡ Some row → map (λ (c : F). Some c) row ≡ map (λ (x : E). slice_get (coordinates x) d) values

-- The places of base constraints that are known by their degrees.
abbrev pub marked_base_places : ℕ → List ConstraintDegrees → List ℕ
marked_base_places n [] = []
marked_base_places n (Base x ∷ xs) = n ∷ marked_base_places (n + 1) xs
marked_base_places n (Extension x ∷ xs) = marked_base_places (n + 1) xs

abbrev pub marked_extension_places : ℕ → List ConstraintDegrees → List ℕ
marked_extension_places n [] = []
marked_extension_places n (Base x ∷ xs) = marked_extension_places (n + 1) xs
marked_extension_places n (Extension x ∷ xs) = n ∷ marked_extension_places (n + 1) xs

pub base_places_are : {F : Type 0} (one other : LeafDegrees) (n : ℕ) (cs : List (Constraint F)) → marked_base_places n (map (marked_degrees one other) cs) ≡ base_places n cs
base_places_are one other n [] = refl
base_places_are one other n (base t ∷ cs) = ap (λ (l : List ℕ). n ∷ l) (base_places_are one other (n + 1) cs)
base_places_are one other n (extension t ∷ cs) = base_places_are one other (n + 1) cs

pub extension_places_are : {F : Type 0} (one other : LeafDegrees) (n : ℕ) (cs : List (Constraint F)) → marked_extension_places n (map (marked_degrees one other) cs) ≡ extension_places n cs
extension_places_are one other n [] = refl
extension_places_are one other n (base t ∷ cs) = extension_places_are one other (n + 1) cs
extension_places_are one other n (extension t ∷ cs) = ap (λ (l : List ℕ). n ∷ l) (extension_places_are one other (n + 1) cs)

-- Each constraint has one place.
pub marked_count : (n m : ℕ) (xs : List ConstraintDegrees) → length (marked_base_places n xs) + length (marked_extension_places m xs) ≡ length xs
marked_count n m [] = refl
marked_count n m (Base x ∷ xs) = let e = marked_count (n + 1) (m + 1) xs in omega (arith, e)
marked_count n m (Extension x ∷ xs) = let e = marked_count (n + 1) (m + 1) xs in omega (arith, e)

pub marked_total : (xs : List ConstraintDegrees) → length xs < 2 ^ 64 → total_of (marked_base_places 0 xs) (marked_extension_places 0 xs) ≡ length xs
marked_total xs fits = let e = marked_count 0 0 xs in omega (arith, e)

pub marked_base_within : (n m : ℕ) (xs : List ConstraintDegrees) → n + length xs ≤ m → All (λ i. i < m) (marked_base_places n xs)
marked_base_within n m [] h = All-nil (λ i. i < m)
marked_base_within n m (Base x ∷ xs) h = All-cons (λ i. i < m) n (marked_base_places (n + 1) xs) (omega arith) (marked_base_within (n + 1) m xs (omega arith))
marked_base_within n m (Extension x ∷ xs) h = marked_base_within (n + 1) m xs (omega arith)

pub marked_extension_within : (n m : ℕ) (xs : List ConstraintDegrees) → n + length xs ≤ m → All (λ i. i < m) (marked_extension_places n xs)
marked_extension_within n m [] h = All-nil (λ i. i < m)
marked_extension_within n m (Base x ∷ xs) h = marked_extension_within (n + 1) m xs (omega arith)
marked_extension_within n m (Extension x ∷ xs) h = All-cons (λ i. i < m) n (marked_extension_places (n + 1) xs) (omega arith) (marked_extension_within (n + 1) m xs (omega arith))

-- How many constraints a layout has places of, and the powers of a challenge that belong to those over the base field and over the extension.
abbrev pub total_in : ConstraintLayout → ℕ
total_in layout = total_of layout.base_indices.items layout.ext_indices.items

abbrev pub base_powers : {E : Type 0} → RingOps E → E → ConstraintLayout → List E
base_powers ring a layout = place_powers ring a (total_in layout) layout.base_indices.items

abbrev pub extension_powers : {E : Type 0} → RingOps E → E → ConstraintLayout → List E
extension_powers ring a layout = place_powers ring a (total_in layout) layout.ext_indices.items

-- An AIR with its lookups, as an AIR.
use Rattle.std.specs.Prelude.{◌≡◌, ℕ, ◌^◌, ◌≤◌, ◌++◌, nat_lt, ◌&&◌, List, map, length, Option, None, Some, if◌then◌else◌}
use Rattle.std.specs.Option.{option_or}
use Rattle.std.specs.declared.vec.Vec.{Vec}
use Rattle.stark_support.specs.Ring.{RingOps}
use Rattle.stark_air.specs.Layout.{Layout}
use Rattle.stark_air.specs.Tree.{Tree}
use Rattle.stark_logup.specs.Coordinates.{own_table}
use Rattle.stark_logup.specs.Fractions.{Decides}
use Rattle.stark_logup.specs.RowConstraints.{CoordinatesOf}
use Rattle.stark_lookup_air.specs.LookupConstraints.{Lookups, auxiliary, drawn, light_trees, lookup_constraints, lookup_equations}
use Rattle.stark_tree_air.specs.Traces.{declared_trace}
use Rattle.stark_tree_air.specs.Writing.{spelled_in}
use Rattle.stark_tree_air.specs.declared.air.TreeAir.{TreeAir}
use Rattle.stark_tree_air.specs.declared.list.TreeList.{TreeList}
use Rattle.stark_lookup_extension.specs.ExtendedSizes.{columns_with, sizes_fit, values_with}
use Rattle.stark_lookup_extension.specs.ExtensionFaults.{lookups_fault}
use Rattle.stark_lookup_extension.specs.Interactions.{lookups_over}
use Rattle.stark_lookup_extension.specs.Written.{Spelling, Stand, Written}
use Rattle.stark_lookup_extension.specs.WrittenEquations.{AuxiliaryStands, DrawsStand, GroupsStand}
use Rattle.stark_lookup_extension.specs.declared.equations.WrittenAuxiliary.{WrittenAuxiliary}
use Rattle.stark_lookup_extension.specs.declared.equations.WrittenDraws.{WrittenDraws}
use Rattle.stark_lookup_extension.specs.declared.equations.WrittenEntry.{WrittenEntry}
use Rattle.stark_lookup_extension.specs.declared.error.ExtensionError.{ExtensionError}
use Rattle.stark_lookup_extension.specs.declared.error.ExtensionError.TheVariants.{NoMainColumns, TooLarge}
use Rattle.stark_lookup_extension.specs.declared.lookup.LookupList.{LookupList}
use Rattle.stark_lookup_extension.specs.declared.sizes.OwnCounts.{OwnCounts}

-- The coordinates of one and of the products of the basis.
abbrev pub own_drawn : {F E : Type 0} → ℕ → RingOps E → List E → (E → List F) → Lookups F → CoordinatesOf (Tree F)
own_drawn dimension ring basis coordinates x = drawn dimension (coordinates ring.one) (own_table ring basis coordinates) x

abbrev pub own_equations : {F E : Type 0} → ℕ → RingOps E → List E → (E → List F) → RingOps (Tree F) → Lookups F → List (Tree F)
own_equations dimension ring basis coordinates trees x = lookup_equations dimension (coordinates ring.one) (own_table ring basis coordinates) x trees

module _ {F E : Type 0} (dimension : ℕ) (ring : RingOps E) (basis : List E) (coordinates : E → List F) where
  -- The draws' coordinates, of lookups of this width after that many public values.
  abbrev pub WritesDraws : ℕ → ℕ → TreeList F → WrittenDraws → TreeList F → Type 0
  WritesDraws first width old draws new = (l : Layout) (ts : List (Tree F)) (x : Lookups F) → x.public_values ≡ first → x.width ≡ width → Spelling l old ts
      → values_with dimension first width ≤ l.public_values → Written l ts old new (λ us. DrawsStand us draws (own_drawn dimension ring basis coordinates x))

  -- The equations of lookups, whose groups stand at these places.
  abbrev pub WritesEquations : {A : Type 0} → RingOps F → OwnCounts → TreeList F → List (Vec WrittenEntry A) → List ℕ → TreeList F → Type 0
  WritesEquations base own old groups ps new = (same : Decides F) (l : Layout) (ts : List (Tree F)) (x : Lookups F) → x.main ≡ own.main → x.public_values ≡ own.public_values → x.width ≡ own.key_width → Spelling l old ts
      → GroupsStand ts groups x.groups → columns_with dimension own.main (length groups) ≤ l.main → columns_with dimension own.main (length groups) ≤ l.main_next
      → values_with dimension own.public_values own.key_width ≤ l.public_values
      → Written l ts old new (λ us. Stand us ps (own_equations dimension ring basis coordinates (light_trees same base) x))

  -- Its constraints are those of the AIR, and after them those of the lookups.
  abbrev pub HasLookups : RingOps F → LookupList → TreeAir F → TreeAir F → Type 0
  HasLookups base given air all = (same : Decides F) → spelled_in all.list
      ≡ spelled_in air.list ++ lookup_constraints dimension (coordinates ring.one) (own_table ring basis coordinates) (lookups_over base air given) (light_trees same base)

-- Helpers and the running sum, after that many columns.
abbrev pub WritesAuxiliary : {F : Type 0} → ℕ → ℕ → ℕ → TreeList F → WrittenAuxiliary → TreeList F → Type 0
WritesAuxiliary {F} dimension first groups old a new = (l : Layout) (ts : List (Tree F)) (one : List F) (table : List (List (List F))) (x : Lookups F) → x.main ≡ first → length x.groups ≡ groups → Spelling l old ts
    → columns_with dimension first groups ≤ l.main → columns_with dimension first groups ≤ l.main_next → Written l ts old new (λ us. AuxiliaryStands us a (auxiliary dimension one table x))

-- how much an AIR with lookups has
abbrev pub own_counts : {F : Type 0} → Lookups F → OwnCounts
own_counts x = record { main = x.main; public_values = x.public_values; key_width = x.width }

-- Its columns and public values are those of the AIR and those of the lookups; periodic and preprocessed columns are the AIR's, and
-- there is no hint of a degree or of a number of constraints.
pub record HasRoom {F : Type 0} (dimension : ℕ) (x : Lookups F) (air all : TreeAir F) : Type 0 where
  pub columns : all.declaration.columns.width ≡ columns_with dimension x.main (length x.groups)
  pub values : all.declaration.columns.num_public_values ≡ values_with dimension x.public_values x.width
  pub periodic : map (λ c. c.items) all.declaration.columns.periodic_columns.items ≡ map (λ c. c.items) air.declaration.columns.periodic_columns.items
  pub preprocessed : declared_trace all.declaration.columns.preprocessed_trace ≡ declared_trace air.declaration.columns.preprocessed_trace
  pub degree : all.declaration.max_constraint_degree ≡ None
  pub number : all.declaration.num_constraints ≡ None

-- What is wrong with lookups over an AIR.
abbrev pub extension_fault : {F : Type 0} → RingOps F → ℕ → LookupList → TreeAir F → Option ExtensionError
extension_fault base dimension given air =
    let x = lookups_over base air given in
    option_or (if nat_lt 0 air.declaration.columns.width then None else Some NoMainColumns)
    (option_or (lookups_fault (record { nodes = length air.list.nodes.items; width = given.width }) 0 given.lookups.items)
    (if nat_lt x.width (2 ^ 64) && sizes_fit dimension (own_counts x) (length x.groups) then None else Some TooLarge))

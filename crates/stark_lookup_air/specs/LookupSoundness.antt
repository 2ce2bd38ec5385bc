-- Columns that satisfy an AIR with lookups need draws that let the rows' tuples pass.
use Rattle.std.specs.Prelude.{◌≡◌, ℕ, ◌+◌, ◌-◌, ◌≤◌, List, ◌++◌, map, length, slice_index_or}
use Rattle.std.specs.List.{AllByRecursion}
use Rattle.stark_support.specs.Ring.{RingOps}
use Rattle.stark_support.specs.Operations.{ring_operations}
use Rattle.stark_air.specs.Tree.{Tree}
use Rattle.stark_air.specs.Value.{value}
use Rattle.stark_air.specs.Layout.{Layout}
use Rattle.stark_security.specs.ConstraintPolynomial.{AirInstance, Columns, height, environment_at}
use Rattle.stark_security.specs.BadValues.{point, Satisfies}
use Rattle.stark_logup.specs.Lookups.{CanPass}
use Rattle.stark_logup.specs.Coordinates.{element, IsProductTable, embedded_table}
use Rattle.stark_logup.specs.RowConstraints.{ArePowers, HavePowers, groups_worth}
use Rattle.stark_lookup_air.specs.LookupConstraints.{Lookups, AreWorth, InteractionWithin, lookup_constraints, from_place, blocks_from}

module _ {F E : Type 0} (i : AirInstance F E) (columns : Columns F E) where
  -- What a tree is worth in row r.
  abbrev pub worth_in_row : ℕ → Tree F → E
  worth_in_row r t = value (ring_operations i.ring i.embed) (environment_at i i.ring (λ x. x) columns (point i r)) t

  abbrev pub public_element : ℕ → E
  public_element k = i.embed (slice_index_or columns.public_values k i.base.zero)

  -- The public values have the draws' coordinates, after those of the AIR itself.
  pub record ShowDraws (l : Lookups F) (dimension : ℕ) (beta gamma : E) : Type 0 where
    pub gamma_shown : element i.ring i.basis (from_place public_element l.public_values dimension) ≡ gamma
    pub powers_shown : ArePowers i.ring i.basis beta beta (blocks_from public_element (l.public_values + dimension) dimension (l.width - 1))

-- The AIR's own columns with auxiliary ones, and its public values with those of the draws.
abbrev pub extended_columns : {F E : Type 0} → Columns F E → List (List E) → List F → Columns F E
extended_columns own more draws = record { main = own.main ++ more; preprocessed = own.preprocessed; public_values = own.public_values ++ draws }

-- The AIR's constraints, and those of its lookups.
abbrev pub with_lookups : {F E : Type 0} → AirInstance F E → RingOps (Tree F) → ℕ → List F → List (List (List F)) → Lookups F → AirInstance F E
with_lookups i expressions dimension one table l = record i { constraints = i.constraints ++ lookup_constraints dimension one table l expressions }

-- The trees of the lookups read nothing but the AIR's own columns and values, of which there are as many as they say; and tuples are
-- no longer than the width.
pub record LookupsFit {F E : Type 0} (own : Columns F E) (layout : Layout) (l : Lookups F) : Type 0 where
  pub within : AllByRecursion (λ g. AllByRecursion (λ e. InteractionWithin layout e) g) l.groups
  pub main : layout.main ≤ length own.main
  pub main_next : layout.main_next ≤ length own.main
  pub public_values : layout.public_values ≤ length own.public_values
  pub main_number : length own.main ≡ l.main
  pub values_number : length own.public_values ≡ l.public_values
  pub widths : HavePowers (1 + (l.width - 1)) l.groups

-- One and the products of the basis have these coordinates.
pub record AreConstants {F E : Type 0} (i : AirInstance F E) (one : List F) (table : List (List (List F))) : Type 0 where
  pub one_is : element i.ring i.basis (map i.embed one) ≡ i.ring.one
  pub products_are : IsProductTable i.ring i.basis (embedded_table i.embed table)

-- Whatever auxiliary columns there are beside the AIR's own: where all constraints hold on H, the AIR's own do, and by the draws
-- the tuples of the rows can pass. Which tuples these are, the own columns alone say.
abbrev pub SatisfyingPasses : {F E : Type 0} → AirInstance F E → Type 0
SatisfyingPasses {F} {E} i = (expressions : RingOps (Tree F)) (dimension : ℕ) (one : List F) (table : List (List (List F))) (l : Lookups F) (layout : Layout) (own : Columns F E) (more : List (List E)) (draws : List F) (beta gamma : E)
    → AreWorth i.ring i.embed expressions → AreConstants i one table → LookupsFit own layout l → ShowDraws i (extended_columns own more draws) l dimension beta gamma
    → Satisfies (with_lookups i expressions dimension one table l) (extended_columns own more draws)
    → Satisfies i (extended_columns own more draws) × CanPass i.ring (groups_worth (worth_in_row i own) l.groups) (height i) beta gamma

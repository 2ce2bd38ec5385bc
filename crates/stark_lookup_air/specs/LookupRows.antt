-- Rows in whose places the auxiliary columns stand meet the constraints of lookups.
use Rattle.std.specs.Prelude.{◌≡◌, ℕ, suc, ◌+◌, ◌-◌, ◌<◌, List, map, length}
use Rattle.std.specs.List.{AllByRecursion}
use Rattle.stark_support.specs.Ring.{RingOps}
use Rattle.stark_support.specs.Operations.{ring_operations}
use Rattle.stark_air.specs.Tree.{Tree}
use Rattle.stark_air.specs.Value.{Environment, value}
use Rattle.stark_logup.specs.Lookups.{CanPass}
use Rattle.stark_logup.specs.Coordinates.{element, HasDimension, IsProductTable, embedded_table}
use Rattle.stark_logup.specs.RowConstraints.{ArePowers, HavePowers, groups_worth}
use Rattle.stark_lookup_air.specs.LookupConstraints.{AreWorth, Lookups, from_place, blocks_from, lookup_equations, sum_column}

module _ {F E : Type 0} (base : RingOps F) (ring : RingOps E) (embed : F → E) (dimension : ℕ) (basis : List E) (coordinates : E → List F) where
  -- what a tree is worth over a row of the base field
  abbrev pub worth_over : Environment F → Tree F → F
  worth_over e t = value (ring_operations base (λ x. x)) e t

  -- The public values have the draws' coordinates, after those of the AIR itself.
  pub record HaveDraws (l : Lookups F) (beta gamma : E) (e : Environment F) : Type 0 where
    pub gamma_shown : element ring basis (map embed (from_place e.public_value l.public_values dimension)) ≡ gamma
    pub powers_shown : ArePowers ring basis beta beta (map (map embed) (blocks_from e.public_value (l.public_values + dimension) dimension (l.width - 1)))

  -- After the AIR's own columns stand the coordinates of these helpers and of the running sum.
  pub record HaveAuxiliary (l : Lookups F) (first : ℕ) (e : Environment F) (helpers : List E) (sum next : E) : Type 0 where
    pub helpers_there : blocks_from e.main_current l.main dimension (length l.groups) ≡ map coordinates helpers
    pub sum_there : from_place e.main_current first dimension ≡ coordinates sum
    pub next_there : from_place e.main_next first dimension ≡ coordinates next

  -- One and the products of the basis have these coordinates, as many as they should.
  pub record FullConstants (one : List F) (table : List (List (List F))) : Type 0 where
    pub one_is : element ring basis (map embed one) ≡ ring.one
    pub products_are : IsProductTable ring basis (embedded_table embed table)
    pub one_length : length one ≡ dimension
    pub table_dimension : HasDimension dimension table

  -- Auxiliary columns with which the draws let the rows' tuples pass, put in their places, meet each constraint of the lookups.
  abbrev pub RowsMeetLookups : Type 0
  RowsMeetLookups = (expressions : RingOps (Tree F)) (one : List F) (table : List (List (List F))) (l : Lookups F) (beta gamma : E) (e : ℕ → Environment F) (rows : ℕ)
      → AreWorth base (λ x. x) expressions → FullConstants one table → HavePowers (1 + (l.width - 1)) l.groups → ((r : ℕ) → HaveDraws l beta gamma (e r))
      → (columns : CanPass ring (groups_worth (λ r t. embed (worth_over (e r) t)) l.groups) rows beta gamma)
      → (r : ℕ) → r < rows → HaveAuxiliary l (sum_column dimension one table l) (e r) (columns.helpers r) (columns.sums r) (columns.sums (suc r))
      → AllByRecursion (λ t. worth_over (e r) t ≡ base.zero) (lookup_equations dimension one table l expressions)

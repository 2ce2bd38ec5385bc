-- The equations of a row's lookups as they are written.
use Rattle.std.specs.Prelude.{◌≡◌, ℕ, List, [], ◌∷◌, ◌++◌}
use Rattle.std.specs.declared.vec.Vec.{Vec}
use Rattle.stark_support.specs.Faults.{PlaceByPlace}
use Rattle.stark_support.specs.Polynomial.{polynomial_ring, polynomial_sum, scaled}
use Rattle.stark_support.specs.Ring.{RingOps, difference}
use Rattle.stark_air.specs.Tree.{Tree}
use Rattle.stark_logup.specs.Coordinates.{product_coordinates}
use Rattle.stark_logup.specs.Fractions.{Entry}
use Rattle.stark_logup.specs.RowConstraints.{AuxiliaryExpressions, CoordinatesOf, gap, group_denominator, group_numerator, helper_equation, helper_equations, lists_sum, row_equations}
use Rattle.stark_lookup_air.specs.LookupConstraints.{Interaction}
use Rattle.stark_tree_air.specs.declared.list.TreeList.{TreeList}
use Rattle.stark_lookup_extension.specs.Written.{ByTrees, RowsStand, Stand, StandsAt, TableStands, WritesOne, WritesTwo}
use Rattle.stark_lookup_extension.specs.declared.equations.WrittenAuxiliary.{WrittenAuxiliary}
use Rattle.stark_lookup_extension.specs.declared.equations.WrittenDraws.{WrittenDraws}
use Rattle.stark_lookup_extension.specs.declared.equations.WrittenEntry.{WrittenEntry}
use Rattle.stark_lookup_extension.specs.declared.equations.WrittenFraction.{WrittenFraction}

pub record DrawsStand {F : Type 0} (ts : List (Tree F)) (draws : WrittenDraws) (c : CoordinatesOf (Tree F)) : Type 0 where
  pub gamma : Stand ts draws.gamma.items c.gamma
  pub one : Stand ts draws.one.items c.one
  pub powers : RowsStand ts draws.powers.items c.powers
  pub table : TableStands ts draws.table.items c.table

pub record EntryStands {F : Type 0} (ts : List (Tree F)) (entry : WrittenEntry) (e : Interaction F) : Type 0 where
  pub key : Stand ts entry.key.items e.key
  pub multiplicity : StandsAt ts entry.multiplicity e.multiplicity

abbrev pub GroupStands : {F : Type 0} → List (Tree F) → List WrittenEntry → List (Interaction F) → Type 0
GroupStands ts group es = PlaceByPlace (EntryStands ts) group es

abbrev pub GroupsStand : {F A : Type 0} → List (Tree F) → List (Vec WrittenEntry A) → List (List (Interaction F)) → Type 0
GroupsStand ts groups gs = PlaceByPlace (λ group es. GroupStands ts group.items es) groups gs

-- a denominator and a numerator
pub record FractionStands {F : Type 0} (ts : List (Tree F)) (fraction : WrittenFraction) (parts : List (Tree F) × List (Tree F)) : Type 0 where
  pub denominator : Stand ts fraction.denominator.items parts.0
  pub numerator : Stand ts fraction.numerator.items parts.1

abbrev pub EntryFractionStand : {F : Type 0} → List (Tree F) → WrittenEntry × WrittenFraction → Interaction F × (List (Tree F) × List (Tree F)) → Type 0
EntryFractionStand ts given e = EntryStands ts given.0 e.0 × FractionStands ts given.1 e.1

abbrev pub GroupHelperStand : {F : Type 0} → List (Tree F) → List WrittenEntry × List ℕ → List (Interaction F) × List (Tree F) → Type 0
GroupHelperStand ts given g = GroupStands ts given.0 g.0 × Stand ts given.1 g.1

abbrev pub GroupsHelpersStand : {F A B : Type 0} → List (Tree F) → List (Vec WrittenEntry A) × List (Vec ℕ B) → List (List (Interaction F)) × List (List (Tree F)) → Type 0
GroupsHelpersStand ts given gs = GroupsStand ts given.0 gs.0 × RowsStand ts given.1 gs.1

pub record AuxiliaryStands {F : Type 0} (ts : List (Tree F)) (auxiliary : WrittenAuxiliary) (a : AuxiliaryExpressions (Tree F)) : Type 0 where
  pub helpers : RowsStand ts auxiliary.helpers.items a.helpers
  pub sum : Stand ts auxiliary.sum.items a.sum
  pub next : Stand ts auxiliary.next.items a.next

abbrev pub GroupsAuxiliaryStand : {F A : Type 0} → List (Tree F) → List (Vec WrittenEntry A) × WrittenAuxiliary → List (List (Interaction F)) × AuxiliaryExpressions (Tree F) → Type 0
GroupsAuxiliaryStand ts given gs = GroupsStand ts given.0 gs.0 × AuxiliaryStands ts given.1 gs.1

-- no entry has one as its denominator
pub record IsNoFraction (draws : WrittenDraws) (fraction : WrittenFraction) : Type 0 where
  pub denominator : fraction.denominator.items ≡ draws.one.items
  pub numerator : fraction.numerator.items ≡ []

module _ {F : Type 0} (expressions : RingOps (Tree F)) where
  abbrev pub gap_of : CoordinatesOf (Tree F) → List (Tree F) → List (Tree F)
  gap_of c tuple = gap expressions c tuple

  -- the fraction of an entry and of others
  abbrev pub fraction_with : CoordinatesOf (Tree F) → Interaction F × (List (Tree F) × List (Tree F)) → List (Tree F) × List (Tree F)
  fraction_with c given =
      let apart = gap expressions c given.0.key in
      let below = given.1.0 in
      (product_coordinates expressions c.table apart below, polynomial_sum expressions (scaled expressions given.0.multiplicity below) (product_coordinates expressions c.table apart given.1.1))

  abbrev pub fraction_of : CoordinatesOf (Tree F) → List (Interaction F) → List (Tree F) × List (Tree F)
  fraction_of c es = (group_denominator expressions c es, group_numerator expressions c es)

  abbrev pub equation_of : CoordinatesOf (Tree F) → List (Interaction F) × List (Tree F) → List (Tree F)
  equation_of c g = helper_equation expressions c g.0 g.1

  abbrev pub equations_of : CoordinatesOf (Tree F) → List (List (Interaction F)) × List (List (Tree F)) → List (Tree F)
  equations_of c gs = helper_equations expressions c gs.0 gs.1

  abbrev pub sum_equation_of : AuxiliaryExpressions (Tree F) → List (Tree F)
  sum_equation_of a = difference (polynomial_ring expressions) a.next (polynomial_sum expressions a.sum (lists_sum expressions a.helpers))

  abbrev pub row_equations_of : CoordinatesOf (Tree F) → List (List (Interaction F)) × AuxiliaryExpressions (Tree F) → List (Tree F)
  row_equations_of c gs = row_equations expressions c gs.0 gs.1.helpers gs.1.sum gs.1.next

module _ {F : Type 0} (ring : RingOps F) where
  abbrev pub WritesGap : TreeList F → WrittenDraws → List ℕ → List ℕ → TreeList F → Type 0
  WritesGap old draws tuple ps new = ByTrees ring (λ trees. WritesTwo DrawsStand Stand Stand (gap_of trees) old draws tuple ps new)

  -- the fraction of an entry and of those after it
  abbrev pub WritesFractionWith : TreeList F → WrittenDraws → WrittenEntry → WrittenFraction → WrittenFraction → TreeList F → Type 0
  WritesFractionWith old draws entry rest all new = ByTrees ring (λ trees. WritesTwo DrawsStand EntryFractionStand FractionStands (fraction_with trees) old draws (entry, rest) all new)

  abbrev pub WritesFraction : TreeList F → WrittenDraws → List WrittenEntry → WrittenFraction → TreeList F → Type 0
  WritesFraction old draws group all new = ByTrees ring (λ trees. WritesTwo DrawsStand GroupStands FractionStands (fraction_of trees) old draws group all new)

  abbrev pub WritesEquation : TreeList F → WrittenDraws → List WrittenEntry → List ℕ → List ℕ → TreeList F → Type 0
  WritesEquation old draws group helper ps new = ByTrees ring (λ trees. WritesTwo DrawsStand GroupHelperStand Stand (equation_of trees) old draws (group, helper) ps new)

  -- the equations of all helpers
  abbrev pub WritesHelpers : {A B : Type 0} → TreeList F → WrittenDraws → List (Vec WrittenEntry A) → List (Vec ℕ B) → List ℕ → TreeList F → Type 0
  WritesHelpers old draws groups helpers ps new = ByTrees ring (λ trees. WritesTwo DrawsStand GroupsHelpersStand Stand (equations_of trees) old draws (groups, helpers) ps new)

  abbrev pub WritesTotal : {A : Type 0} → TreeList F → List (Vec ℕ A) → List ℕ → TreeList F → Type 0
  WritesTotal old rows ps new = ByTrees ring (λ trees. WritesOne RowsStand Stand (lists_sum trees) old rows ps new)

  abbrev pub WritesSumEquation : TreeList F → WrittenAuxiliary → List ℕ → TreeList F → Type 0
  WritesSumEquation old auxiliary ps new = ByTrees ring (λ trees. WritesOne AuxiliaryStands Stand (sum_equation_of trees) old auxiliary ps new)

  abbrev pub WritesRow : {A : Type 0} → TreeList F → WrittenDraws → List (Vec WrittenEntry A) → WrittenAuxiliary → List ℕ → TreeList F → Type 0
  WritesRow old draws groups auxiliary ps new = ByTrees ring (λ trees. WritesTwo DrawsStand GroupsAuxiliaryStand Stand (row_equations_of trees) old draws (groups, auxiliary) ps new)

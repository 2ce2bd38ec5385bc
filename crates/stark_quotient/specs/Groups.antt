-- Groups of points, and what is computed ahead for all of them.
use Rattle.std.specs.Prelude.{◌≡◌, ℕ, ◌*◌, List, length, map}
use Rattle.std.specs.Vec.{vec_items}
use Rattle.std.specs.declared.vec.Vec.{Vec}
use Rattle.stark_support.specs.Ring.{RingOps}
use Rattle.stark_support.specs.Coset.{AreDisjoint, TwoAdicCoset}
use Rattle.stark_support.specs.FieldPair.{FieldsOps}
use Rattle.stark_support.specs.PeriodicTable.{HasPeriodicValues}
use Rattle.stark_support.specs.declared.vectorized.OfBase.{OfBase}
use Rattle.stark_support.specs.declared.vectorized.PackedPair.{PackedPair}
use Rattle.stark_support.specs.declared.domain.LagrangeSelectors.{LagrangeSelectors}
use Rattle.stark_support.specs.declared.periodic_table.PeriodicLdeTable.{PeriodicLdeTable}
use Rattle.stark_air.specs.Layout.{Layout}
use Rattle.stark_air.specs.Tree.{Constraint}
use Rattle.stark_quotient.specs.FoldedPlaces.{AreFoldingPowers}
use Rattle.stark_quotient.specs.OnCoset.{ArePrepared}
use Rattle.stark_air.specs.Value.{Environment}
use Rattle.stark_prover_folder.specs.Finalized.{PackingOps, in_pairs}
use Rattle.stark_quotient.specs.PointRows.{AreFoldedRows, FitLayout, packed_environment, packed_layout}
use Rattle.stark_quotient.specs.declared.plain_eval.AlphaPowers.{AlphaPowers}
use Rattle.stark_quotient.specs.declared.plain_eval.PackedGroup.{PackedGroup}
use Rattle.stark_quotient.specs.declared.plain_eval.PackedRows.{PackedRows}

-- The powers of a challenge that fold these constraints, in lists; of the challenge that they are kept with; of some challenge.
abbrev pub HoldPowers : {F E A B C : Type 0} → RingOps E → (E → List F) → ℕ → E → List (Constraint F) → Vec (Vec F A) B → Vec E C → Type 0
HoldPowers ring coordinates dimension alpha cs base ext = AreFoldingPowers ring coordinates dimension alpha cs (map vec_items base.items) ext.items

abbrev pub AreFoldedBy : {F E : Type 0} → RingOps E → (E → List F) → ℕ → List (Constraint F) → AlphaPowers E F → Type 0
AreFoldedBy ring coordinates dimension cs powers = AreFoldingPowers ring coordinates dimension powers.alpha cs (map vec_items powers.base.items) powers.ext.items

abbrev pub HasPowers : {F E P Q A : Type 0} → PackingOps F E P Q → List (Constraint F) → List (Vec F A) → List E → Type 0
HasPowers {E = E} packing cs base ext = (alpha : E) × AreFoldingPowers packing.fields.ring packing.coordinates packing.fields.dimension alpha cs (map vec_items base) ext

-- Two main rows and two preprocessed ones, each as wide as it is said to be.
abbrev pub HasTwoRows : {P : Type 0} → PackedRows P → Type 0
HasTwoRows rows = (length rows.main.items ≡ 2 * rows.main_width) × (length rows.preprocessed.items ≡ 2 * rows.preprocessed_width)

module _ {F E P : Type 0} (group : PackedGroup F E P) where
  -- The group's rows and values have the lengths that a layout declares.
  abbrev pub FitsLayout : Layout → Type 0
  FitsLayout layout = FitLayout layout group.rows.now.main_width group.rows.now.preprocessed_width group.rows.now.main.items group.rows.now.preprocessed.items
      group.rows.now.periodic_values.items group.public_values.now

  abbrev pub group_layout : Layout
  group_layout = packed_layout group.rows.now.main_width group.rows.now.preprocessed_width group.rows.now.main.items group.rows.now.preprocessed.items
      group.rows.now.periodic_values.items group.public_values.now

  -- What an AIR's constraints read there, a point a lane.
  abbrev pub group_environment : {Q : Type 0} → PackingOps F E P Q → Environment P
  group_environment packing = packed_environment group.rows.now.main_width group.rows.now.preprocessed_width group.rows.now.main.items group.rows.now.preprocessed.items
      group.rows.now.periodic_values.items group.public_values.now packing.operations packing.fields.base.zero group.selectors.now.is_first_row group.selectors.now.is_last_row
      group.selectors.now.is_transition

  -- An environment is that.
  abbrev pub ShowsGroup : {Q : Type 0} → PackingOps F E P Q → Environment P → Type 0
  ShowsGroup packing environment = environment ≡ group_environment packing

  -- In each of `number` lanes `packed` is the folded sum of the constraints over the row there.
  abbrev pub Folds : {Q : Type 0} → FieldsOps F E → (P → List F) → (Q → List E) → ℕ → List (Constraint F) → Q → Type 0
  Folds fields lanes above number cs packed = AreFoldedRows fields.base fields.ring fields.embed lanes above number group.rows.now.main_width
      group.rows.now.preprocessed_width group.rows.now.main.items group.rows.now.preprocessed.items group.rows.now.periodic_values.items group.public_values.now
      group.selectors.now.is_first_row group.selectors.now.is_last_row group.selectors.now.is_transition group.powers.now.alpha cs packed

  abbrev pub FoldsPacked : {Q : Type 0} → PackingOps F E P Q → List (Constraint F) → Q → Type 0
  FoldsPacked packing cs packed = Folds packing.fields packing.lanes packing.lanes_above packing.width cs packed

-- What a group of two packed values side by side shows.
abbrev pub ShowsPairs : {F E P Q : Type 0} → PackedGroup F E (PackedPair F P OfBase 2) → PackingOps F E P Q → Environment (PackedPair F P OfBase 2) → Type 0
ShowsPairs group packing environment = ShowsGroup group (in_pairs packing) environment

-- ---- a trace's domain and the quotient's

-- They have no point in common.
abbrev pub AreApart : {F D : Type 0} → RingOps F → (ℕ → F) → (D → TwoAdicCoset F) → D → D → Type 0
AreApart ring root coset_of trace domain = AreDisjoint ring root (coset_of trace) (coset_of domain)

-- A table has the periodic columns' values at the domain's points.
abbrev pub Tabulates : {F E D : Type 0} → FieldsOps F E → (D → TwoAdicCoset F) → D → D → List (List F) → PeriodicLdeTable F → Type 0
Tabulates fields coset_of trace domain columns table =
    HasPeriodicValues fields.base fields.base_inverse fields.root (coset_of trace) (coset_of domain) columns table.values.items table.width table.period

-- Selectors and table are those of the domains.
abbrev pub IsPrepared : {F E D A : Type 0} → FieldsOps F E → (D → TwoAdicCoset F) → D → D → List (List F) → LagrangeSelectors (Vec F A) × PeriodicLdeTable F → Type 0
IsPrepared fields coset_of trace domain columns made = ArePrepared fields.base fields.base_inverse fields.root (coset_of trace) (coset_of domain) columns
    made.0.is_first_row.items made.0.is_last_row.items made.0.is_transition.items made.0.inv_vanishing.items made.1.values.items made.1.width made.1.period

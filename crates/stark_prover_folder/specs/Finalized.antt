-- What the prover's folder answers in each lane.
use Rattle.std.specs.Prelude.{◌≡◌, ◌<◌, ◌*◌, ℕ, List, map, slice_index_or}
use Rattle.std.specs.Vec.{vec_items}
use Rattle.std.specs.declared.vec.Vec.{Vec}
use Rattle.stark_support.specs.FieldPair.{FieldsOps}
use Rattle.stark_support.specs.Pairs.{both_lanes, both_operations}
use Rattle.stark_support.specs.Ring.{RingOps}
use Rattle.stark_support.specs.Operations.{Operations, ring_operations}
use Rattle.stark_support.specs.declared.vectorized.OfBase.{OfBase}
use Rattle.stark_support.specs.declared.vectorized.OfExtension.{OfExtension}
use Rattle.stark_support.specs.declared.vectorized.PackedPair.{PackedPair}
use Rattle.stark_support.specs.Combination.{linear_combination}
use Rattle.stark_support.specs.Extension.{basis_sum}

-- Lane i of each packed value; past the lanes stands the filler.
abbrev pub lane_values : {F P : Type 0} → (P → List F) → ℕ → F → List P → List F
lane_values lanes i d vs = map (λ v. slice_index_or (lanes v) i d) vs

-- The sum of the values, each times its coefficient.
abbrev pub sum_of_products : {F : Type 0} → RingOps F → F → List F → List F → F
sum_of_products ring zero vs cs = linear_combination (ring_operations ring (λ x. x)) zero vs cs

-- For each row of powers the sum of the values times them, embedded; the sum of these, each times its element of the basis.
abbrev pub base_sums : {F E : Type 0} → RingOps F → F → RingOps E → (F → E) → List E → List (List F) → List F → E
base_sums base zero ring embed basis rows values = basis_sum ring (λ c. c) basis (map (λ row. embed (sum_of_products base zero values row)) rows)

-- These sums of the base values, and the sum of the extension's values times their powers.
abbrev pub finalized : {F E : Type 0} → RingOps F → F → RingOps E → E → (F → E) → List E → List (List F) → List E → List F → List E → E
finalized base zero ring zero_above embed basis rows powers values values_above =
    ring.add (base_sums base zero ring embed basis rows values) (sum_of_products ring zero_above values_above powers)

-- ---- packed values

-- What a base field F and an extension E compute, and how their elements are packed, those of F as P and those of E as Q: the
-- zeros that sums begin with, the packed operations over F, the lanes of both, and how many lanes there are.
pub record PackingOps (F E P Q : Type 0) : Type 0 where
  pub fields : FieldsOps F E
  pub coordinates : E → List F
  pub zero : F
  pub zero_above : E
  pub operations : Operations F P
  pub lanes : P → List F
  pub lanes_above : Q → List E
  pub width : ℕ

-- Two packed values side by side.
abbrev pub in_pairs : {F E P Q : Type 0} → PackingOps F E P Q → PackingOps F E (PackedPair F P OfBase 2) (PackedPair E Q OfExtension 2)
in_pairs packing = record {
  fields = packing.fields;
  coordinates = packing.coordinates;
  zero = packing.zero;
  zero_above = packing.zero_above;
  operations = both_operations packing.operations;
  lanes = both_lanes packing.lanes;
  lanes_above = both_lanes packing.lanes_above;
  width = 2 * packing.width;
}

-- In each lane a packed value is the sum of the values there, each times its coefficient.
abbrev pub SumsProducts : {F P : Type 0} → RingOps F → F → F → (P → List F) → ℕ → List P → List F → P → Type 0
SumsProducts ring zero filler lanes width values coefficients packed =
    (i : ℕ) → i < width → slice_index_or (lanes packed) i filler ≡ sum_of_products ring zero (lane_values lanes i filler values) coefficients

module _ {F E P Q A : Type 0} (packing : PackingOps F E P Q) where
  -- In each lane a packed value is the sum of the base values there, and the rest.
  abbrev pub AddsBaseSums : List (Vec F A) → List P → Q → Q → Type 0
  AddsBaseSums powers values rest packed = (i : ℕ) → i < packing.width → slice_index_or (packing.lanes_above packed) i packing.fields.ring.zero
      ≡ packing.fields.ring.add (base_sums packing.fields.base packing.zero packing.fields.ring packing.fields.embed packing.fields.basis (map vec_items powers) (lane_values packing.lanes i packing.fields.base.zero values))
      (slice_index_or (packing.lanes_above rest) i packing.fields.ring.zero)

  -- In each lane it is the sum of the kept values there, those over the base field and those over the extension.
  abbrev pub IsFinalized : List (Vec F A) → List E → List P → List Q → Q → Type 0
  IsFinalized base_powers powers values values_above packed = (i : ℕ) → i < packing.width → slice_index_or (packing.lanes_above packed) i packing.fields.ring.zero
      ≡ finalized packing.fields.base packing.zero packing.fields.ring packing.zero_above packing.fields.embed packing.fields.basis (map vec_items base_powers) powers
      (lane_values packing.lanes i packing.fields.base.zero values) (lane_values packing.lanes_above i packing.fields.ring.zero values_above)

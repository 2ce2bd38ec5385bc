-- Packed values of lists, of matrices and of tables, a point a lane.
use Rattle.std.specs.Prelude.{◌≡◌, ◌+◌, ◌++◌, ◌^◌, ◌<◌, ℕ, List, Option, Some, length, slice_index_or}
use Rattle.std.specs.List.{slice_get}
use Rattle.stark_support.specs.FieldPair.{FieldsOps}
use Rattle.stark_support.specs.PeriodicTable.{table_at}
use Rattle.stark_support.specs.declared.periodic_table.PeriodicLdeTable.{PeriodicLdeTable}
use Rattle.stark_air.specs.Declaration.{Trace}
use Rattle.stark_prover_folder.specs.Finalized.{lane_values}
use Rattle.stark_quotient.specs.PointwiseQuotient.{round_row}

-- The lanes have the list's values from a place on, as far as there are some.
abbrev pub HasValuesFrom : {F P : Type 0} → (P → List F) → ℕ → List F → ℕ → P → Type 0
HasValuesFrom lanes width values start packed = (i : ℕ) → i < width → start + i < length values → slice_get (lanes packed) i ≡ slice_get values (start + i)

-- In each lane stand a row of a matrix and behind it the one that lies `step` further, both round the end.
abbrev pub HasRowPairs : {F P : Type 0} → (P → List F) → ℕ → F → Trace F → ℕ → ℕ → List P → Type 0
HasRowPairs lanes width zero matrix r step pair =
    (i : ℕ) → i < width → lane_values lanes i zero pair ≡ round_row matrix (r + i) ++ round_row matrix (r + step + i)

-- What a table says of a column at a row.
abbrev pub said_by : {F : Type 0} → PeriodicLdeTable F → ℕ → ℕ → Option F
said_by table r c = table_at table.values.items table.width table.period r c

-- The lanes have a column's values in the rows from a row on; and so for each column.
abbrev pub HasColumnFrom : {F P : Type 0} → (P → List F) → ℕ → PeriodicLdeTable F → ℕ → ℕ → P → Type 0
HasColumnFrom lanes width table start column packed =
    (i : ℕ) → i < width → start + i < 2 ^ 64 → slice_get (lanes packed) i ≡ said_by table (start + i) column

abbrev pub HaveColumnsFrom : {F P : Type 0} → (P → List F) → ℕ → PeriodicLdeTable F → ℕ → List P → Type 0
HaveColumnsFrom {P = P} lanes width table start row = (c : ℕ) (p : P) → slice_get row c ≡ Some p → HasColumnFrom lanes width table start c p

-- The table has the same values from one row on as from another.
abbrev pub GoesOnAlike : {F : Type 0} → PeriodicLdeTable F → ℕ → ℕ → Type 0
GoesOnAlike table first second = (r c : ℕ) → said_by table (first + r) c ≡ said_by table (second + r) c

-- Each lane of a packed value times that of another one, embedded.
abbrev pub AreScaledBy : {F E P Q : Type 0} → FieldsOps F E → (Q → List E) → (P → List F) → ℕ → Q → P → Q → Type 0
AreScaledBy fields above lanes width sums factors scaled = (i : ℕ) → i < width → slice_index_or (above scaled) i fields.ring.zero
    ≡ fields.ring.mul (slice_index_or (above sums) i fields.ring.zero) (fields.embed (slice_index_or (lanes factors) i fields.base.zero))

-- The lanes have a function's values at the places from one on, as far as there are so many.
abbrev pub HasValuesAt : {E Q : Type 0} → (Q → List E) → ℕ → E → ℕ → ℕ → (ℕ → E) → Q → Type 0
HasValuesAt lanes width zero size start value packed = (i : ℕ) → i < width → start + i < size → slice_index_or (lanes packed) i zero ≡ value (start + i)

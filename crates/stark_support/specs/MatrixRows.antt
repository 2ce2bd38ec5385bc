-- Rows of a matrix that are taken round its end.
use Rattle.std.specs.Prelude.{◌≡◌, ℕ, ◌+◌, ◌*◌, ◌/◌, ◌%◌, ◌<◌, List, Option, Some, length}
use Rattle.std.specs.List.{slice_get}

-- The entry of a column in row r, counted round the end, of values given row after row.
abbrev pub entry_round : {F : Type 0} → List F → ℕ → ℕ → ℕ → Option F
entry_round values width r column = slice_get values ((r % (length values / width)) * width + column)

-- A packed value has the column's entries in the rows r, r + 1, .., a row a lane.
abbrev pub HasEntriesDown : {F P : Type 0} → (P → List F) → ℕ → List F → ℕ → ℕ → ℕ → P → Type 0
HasEntriesDown lanes lane_count values width r column packed = (i : ℕ) → i < lane_count → slice_get (lanes packed) i ≡ entry_round values width (r + i) column

-- There is one for each column.
abbrev pub HaveEntriesDown : {F P : Type 0} → (P → List F) → ℕ → List F → ℕ → ℕ → List P → Type 0
HaveEntriesDown {P = P} lanes lane_count values width r packed = (c : ℕ) (p : P) → slice_get packed c ≡ Some p → HasEntriesDown lanes lane_count values width r c p

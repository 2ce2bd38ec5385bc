-- What the tokens of a text are read as, and the tokens behind it. Only the crate's private clauses cite it.
use Rattle.std.specs.Prelude.{◌≡◌, ◌++◌, ℕ, List, length, Option, Some, String, map}
use Rattle.std.specs.Borrow.{Bor}
use Rattle.std.specs.declared.alloc.Global.{Global}
use Rattle.json.specs.Json.{items, members, value}
use Rattle.json.specs.Token.{Token}
use Rattle.serde_json.specs.Data.{Data, Items, Members, no_members}
use Rattle.serde_json.specs.Read.{converted, of_items, of_json, of_members}
use Rattle.serde_json.specs.View.{items_of, members_view}
use Rattle.serde_json.specs.declared.value.Value.{Value}
use Rattle.stark_json.specs.Apart.{joined_members, names_of, number_data, row_data, rows_apart}
use Rattle.stark_json.specs.declared.rows.NumberRows.{NumberRows}

-- the value that is next, where arrays and objects nest so deep at most
abbrev pub value_at : ℕ → List Token → Option (Data × List Token)
value_at depth ts = converted of_json (value depth ts)

-- the items up to the end of an array
abbrev pub items_at : ℕ → List Token → Option (Items × List Token)
items_at depth ts = converted of_items (items (value depth) (length ts) ts)

-- the members up to the end of an object
abbrev pub members_at : ℕ → List Token → Option (Members × List Token)
members_at depth ts = converted (λ ms. of_members ms no_members) (members (value depth) (length ts) ts)

-- the members that these entries are, with rows that may be apart at a path in that of this name
abbrev pub found_members : List ℕ → List (Bor (List ℕ)) → Option NumberRows → List (String Global × Value) → Members
found_members name path rows entries = joined_members name (names_of path) (rows_apart rows) (members_view entries)

-- Numbers up to the end of an array came behind those that were there.
abbrev pub AddsNumbers : ℕ → List ℕ → List ℕ → List Token → List Token → Type 0
AddsNumbers depth before after old new = (row : List ℕ) × (after ≡ before ++ row) × (items_at depth old ≡ Some (items_of (map number_data row), new))

-- Those of an array did.
abbrev pub AddsRow : ℕ → List ℕ → List ℕ → List Token → List Token → Type 0
AddsRow depth before after old new = (row : List ℕ) × (after ≡ before ++ row) × (value_at depth old ≡ Some (row_data row, new))

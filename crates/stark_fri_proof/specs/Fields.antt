-- What fields of JSON objects spell.
use Rattle.std.specs.Prelude.{ℕ, List, Option, map}
use Rattle.std.specs.declared.vec.Vec.{Vec}
use Rattle.serde_json.specs.Data.{Data}
use Rattle.serde_json.specs.Find.{get}
use Rattle.stark_merkle.specs.Tree.{items_of}
use Rattle.stark_support.specs.Json.{◌>>=◌, array_at}

-- What is read under a name.
abbrev pub value_under : {A : Type 0} → (Data → Option A) → List ℕ → Data → Option A
value_under reading name d = get name d >>= reading

-- What each item of the array under a name is read as.
abbrev pub list_under : {A : Type 0} → (Data → Option A) → List ℕ → Data → Option (List A)
list_under reading name d = value_under (array_at reading) name d

-- What each item of each array in the array under a name is read as.
abbrev pub rows_under : {A : Type 0} → (Data → Option A) → List ℕ → Data → Option (List (List A))
rows_under reading name d = list_under (array_at reading) name d

-- Rows in memory.
abbrev pub rows_of : {T A B : Type 0} → Vec (Vec T A) B → List (List T)
rows_of rows = map items_of rows.items

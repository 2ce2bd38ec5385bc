-- JSON values of which one member is apart: an array of arrays of numbers, as lists of lists.
use Rattle.std.specs.Prelude.{ℕ, List, [], ◌∷◌, map, if◌then◌else◌, Option, None, Some, option_map, take, drop}
use Rattle.std.specs.Borrow.{Bor}
use Rattle.std.specs.Str.{bytes_eq}
use Rattle.serde_json.specs.Data.{Data, null, boolean, number, string, array, object, unsigned, Members, no_members, member}
use Rattle.serde_json.specs.View.{view}
use Rattle.stark_support.specs.JsonFacts.{list_written}
use Rattle.stark_json.specs.declared.document.Document.{Document}
use Rattle.stark_json.specs.declared.rows.NumberRows.{NumberRows}

abbrev pub number_data : ℕ → Data
number_data n = number (unsigned n)

-- an array of numbers
abbrev pub row_data : List ℕ → Data
row_data row = list_written number_data row

-- an array of arrays of numbers
abbrev pub rows_data : List (List ℕ) → Data
rows_data rows = list_written row_data rows

-- the members, with f of each that has this name
abbrev pub changed_members : List ℕ → (Data → Data) → Members → Members
changed_members name f no_members = no_members
changed_members name f (member key d ms) = member key (if bytes_eq key name then f d else d) (changed_members name f ms)

-- an object with f of its member of this name; another value as it is
abbrev pub changed : List ℕ → (Data → Data) → Data → Data
changed name f null = null
changed name f (boolean b) = boolean b
changed name f (number n) = number n
changed name f (string s) = string s
changed name f (array ds) = array ds
changed name f (object ms) = object (changed_members name f ms)

-- the names on a path, as a call takes them
abbrev pub names_of : List (Bor (List ℕ)) → List (List ℕ)
names_of path = map (λ name. name.now) path

-- the value with another one at a path of names
abbrev pub placed : List (List ℕ) → Data → Data → Data
placed [] inner d = inner
placed (name ∷ path) inner d = changed name (placed path inner) d

-- the value with these rows, if there are any apart, at a path
abbrev pub joined : List (List ℕ) → Option (List (List ℕ)) → Data → Data
joined path None d = d
joined path (Some rows) d = placed path (rows_data rows) d

-- the same of members, of which that of this name has the path
abbrev pub joined_members : List ℕ → List (List ℕ) → Option (List (List ℕ)) → Members → Members
joined_members name path None ms = ms
joined_members name path (Some rows) ms = changed_members name (placed path (rows_data rows)) ms

-- the lists of these lengths that numbers are, one after the other
abbrev pub parted : List ℕ → List ℕ → List (List ℕ)
parted [] numbers = []
parted (n ∷ lengths) numbers = take n numbers ∷ parted lengths (drop n numbers)

abbrev pub lists_of : NumberRows → List (List ℕ)
lists_of rows = parted rows.lengths.items rows.numbers.items

-- the rows that are apart, as lists
abbrev pub rows_apart : Option NumberRows → Option (List (List ℕ))
rows_apart rows = option_map lists_of rows

-- the value that a document is, whose rows may be apart at a path
abbrev pub document_data : List (List ℕ) → Document → Data
document_data path document = joined path (rows_apart document.rows) (view document.value)

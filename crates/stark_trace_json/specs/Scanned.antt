-- What the scanner passes of a text, over the tokens of JSON. Only the crate's private clauses cite it.
use Rattle.std.specs.Prelude.{◌≡◌, ℕ, ◌^◌, ◌<◌, List, [], ◌∷◌, ◌++◌, Option, Some, decimal}
use Rattle.json.specs.Token.{Token, begin_array, end_array, number}
use Rattle.json.specs.Lex as spec
use Rattle.json.specs.Lex.{between, lex, fresh, after_value, after_comma, punctuate}
use Rattle.serde_json.specs.Data.{Data, unsigned}
use Rattle.serde_json.specs.Data as json_data
use Rattle.stark_trace_json.specs.Rows.{HasRows}
use Rattle.stark_trace_json.specs.declared.rows.TraceRows.{TraceRows}
use Rattle.stark_trace_json.specs.declared.scanner.Place.{Place}
use Rattle.stark_trace_json.specs.declared.scanner.Place.TheVariants.{Fresh, AfterValue, AfterComma}
use Rattle.stark_trace_json.specs.declared.scanner.Scanner.{Scanner}

abbrev pub place_of : Place → spec.Place
place_of Fresh = fresh
place_of AfterValue = after_value
place_of AfterComma = after_comma

-- the tokens that are still to come
abbrev pub ahead : Scanner → List Token
ahead s = punctuate (place_of s.place) (lex between s.text.now)

-- What is passed of the tokens `ts`, so that `rest` is left.
module _ {F : Type 0} (reading : Data → Option F) where
  -- a number that spells f
  unfoldable pub IsElement : F → List Token → List Token → Type 0
  IsElement f ts rest = (n : ℕ) × (n < 2 ^ 64) × (ts ≡ number (decimal n) ∷ rest) × (reading (json_data.number (unsigned n)) ≡ Some f)

  -- numbers that spell fs
  unfoldable pub AreElements : List F → List Token → List Token → Type 0
  AreElements [] ts rest = ts ≡ rest
  AreElements (f ∷ fs) ts rest = (next : List Token) × IsElement f ts next × AreElements fs next rest

  -- an array of numbers
  unfoldable pub IsRow : List F → List Token → List Token → Type 0
  IsRow row ts rest = (inner : List Token) × (ts ≡ begin_array ∷ inner) × AreElements row inner (end_array ∷ rest)

  -- arrays of numbers
  unfoldable pub AreRowsAhead : List (List F) → List Token → List Token → Type 0
  AreRowsAhead [] ts rest = ts ≡ rest
  AreRowsAhead (row ∷ rows) ts rest = (next : List Token) × IsRow row ts next × AreRowsAhead rows next rest

  -- an array of these, and nothing behind it
  unfoldable pub IsTable : List (List F) → List Token → Type 0
  IsTable rows ts = (inner : List Token) × (ts ≡ begin_array ∷ inner) × AreRowsAhead rows inner (end_array ∷ [])

  -- an element, that comes behind those that were there
  unfoldable pub HasElement : List F → List F → List Token → List Token → Type 0
  HasElement before after ts rest = (f : F) × (after ≡ before ++ f ∷ []) × IsElement f ts rest

  -- a row, whose elements come behind those that were there
  unfoldable pub HasRow : List F → List F → List Token → List Token → Type 0
  HasRow before after ts rest = (row : List F) × (after ≡ before ++ row) × IsRow row ts rest

  -- the table of these rows
  unfoldable pub HasTable : TraceRows F → List Token → Type 0
  HasTable table ts = (rows : List (List F)) × HasRows table rows × IsTable rows ts

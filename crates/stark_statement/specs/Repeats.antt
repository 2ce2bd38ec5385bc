-- Names that stand twice in an object of a JSON text.
use Rattle.std.specs.Prelude.{ℕ, List, [], ◌∷◌, if◌then◌else◌, is_some, Option, None, Some, option_and_then}
use Rattle.json.specs.Json.{Json, null, boolean, number, string, array, object, Items, no_items, item, Members, no_members, member, if_last, value}
use Rattle.json.specs.Lex.{tokens}
use Rattle.serde_json.specs.Data.{Data}
use Rattle.serde_json.specs.Read.{max_depth}
use Rattle.stark_support.specs.Json.{json_of}
use Rattle.stark_json.specs.Names.{is_among}

abbrev pub or_else : {A : Type 0} → Option A → Option A → Option A
or_else (Some a) b = Some a
or_else None b = b

abbrev mutual
  -- The first name, in the order of the text, that its object has already.
  pub repeat_in : Json → Option (List ℕ)
  repeat_in null = None
  repeat_in (boolean b) = None
  repeat_in (number s) = None
  repeat_in (string s) = None
  repeat_in (array js) = repeat_in_items js
  repeat_in (object ms) = repeat_in_members [] ms

  pub repeat_in_items : Items → Option (List ℕ)
  repeat_in_items no_items = None
  repeat_in_items (item j js) = or_else (repeat_in j) (repeat_in_items js)

  -- of members after those of these names
  pub repeat_in_members : List (List ℕ) → Members → Option (List ℕ)
  repeat_in_members names no_members = None
  repeat_in_members names (member k j ms) = if is_among k names then Some k else or_else (repeat_in j) (repeat_in_members (k ∷ names) ms)

-- the value that a text is, with all members that stand in it
abbrev pub text_json : List ℕ → Option Json
text_json text = option_and_then (λ p. if_last p.0 p.1) (value max_depth (tokens text))

-- the first name of a text that stands twice in an object
unfoldable pub repeated_in : List ℕ → Option (List ℕ)
repeated_in text = option_and_then repeat_in (text_json text)

-- the JSON value that bytes spell, none of whose objects has a name twice
unfoldable pub statement_json : List ℕ → Option Data
statement_json bytes = if is_some (repeated_in bytes) then None else json_of bytes

-- What JSON values spell.
use Rattle.std.specs.Prelude.{◌≡◌, ℕ, List, [], ◌∷◌, if◌then◌else◌, Option, None, Some, option_map, option_and_then, Result, Ok, Err}
use Rattle.std.specs.Str.{is_utf8}
use Rattle.serde_json.specs.Data.{Data, Items, no_items, item}
use Rattle.serde_json.specs.Read.{read}
use Rattle.serde_json.specs.Find.{as_number, as_u64, as_array}
use Rattle.stark_support.specs.declared.json.JsonFault.{JsonFault}
use Rattle.stark_support.specs.declared.json.JsonFault.TheVariants.{Invalid, OutOfMemory}

-- What a reader returned, seen by view, is what reading gives, unless memory ran out.
abbrev pub Gives : {X Y : Type 0} → (X → Y) → Result X JsonFault → Option Y → Type 0
Gives view (Ok x) reading = reading ≡ Some (view x)
Gives view (Err Invalid) reading = reading ≡ None
Gives view (Err OutOfMemory) reading = Unit {0}

infixl 10 ◌>>=◌
abbrev pub ◌>>=◌ : {A B : Type 0} → Option A → (A → Option B) → Option B
None >>= f = None
(Some x) >>= f = f x

-- the JSON value that the bytes spell
unfoldable pub json_of : List ℕ → Option Data
json_of bytes = if is_utf8 bytes then read bytes else None

-- a whole number: one with a fraction or an exponent is none
abbrev pub whole_at : Data → Option ℕ
whole_at d = option_and_then as_u64 (as_number d)

-- what each item is read as
abbrev pub each_at : {A : Type 0} → (Data → Option A) → Items → Option (List A)
each_at f no_items = Some []
each_at f (item d ds) = f d >>= λ a. option_map (λ as'. a ∷ as') (each_at f ds)

-- an array, and what each of its items is read as
unfoldable pub array_at : {A : Type 0} → (Data → Option A) → Data → Option (List A)
array_at f d = as_array d >>= each_at f

-- The names of an object's members.
use Rattle.std.specs.Prelude.{◌||◌, ℕ, List, [], ◌∷◌, Bool, false, if◌then◌else◌, Option, None, Some}
use Rattle.std.specs.Str.{bytes_eq}
use Rattle.serde_json.specs.Data.{Members, no_members, member}

abbrev pub is_among : List ℕ → List (List ℕ) → Bool
is_among name [] = false
is_among name (known ∷ names) = bytes_eq name known || is_among name names

-- The first name that is none of these.
abbrev pub first_unknown : List (List ℕ) → Members → Option (List ℕ)
first_unknown names no_members = None
first_unknown names (member name d ms) = if is_among name names then first_unknown names ms else Some name

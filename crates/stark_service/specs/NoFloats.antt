-- What writes no float.
use Rattle.std.specs.Prelude.{◌≡◌, false}
use Rattle.serde_json.specs.Data.{Data}
use Rattle.serde_json.specs.Written.{has_float}

-- A value's JSON has no float.
abbrev pub WritesNoFloat : {A : Type 0} → (A → Data) → Type 0
WritesNoFloat {A} writing = (x : A) → has_float (writing x) ≡ false

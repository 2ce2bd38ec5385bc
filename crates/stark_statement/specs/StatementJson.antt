-- The JSON of a statement: what a JSON value is read as, or its first fault.
use Rattle.std.specs.Prelude.{◌≡◌, ◌==◌, ℕ, List, [], ◌∷◌, length, if◌then◌else◌, nat_lt, Option, None, Some, IfSome, is_some, option_map, ok_or, Result, Ok, Err, codes, string_bytes, ⊤}
use Rattle.serde_json.specs.Data.{Data, member}
use Rattle.serde_json.specs.Find.{get, as_null, as_array, as_object, as_str}
use Rattle.stark_support.specs.Json.{json_of, whole_at}
use Rattle.stark_json.specs.Elements.{elements_from}
use Rattle.stark_json.specs.Names.{first_unknown}
use Rattle.stark_tree_air.specs.TreeJson.{AirView, TreeFault, air_reading, tree_fault}
use Rattle.stark_statement.specs.Configuration.{ConfigurationView, default_configuration}
use Rattle.stark_statement.specs.ConfigurationJson.{config_names, configuration_at, configuration_named, given_at}
use Rattle.stark_statement.specs.Repeats.{repeated_in}
use Rattle.stark_statement.specs.StatementView.{StatementView}
use Rattle.stark_statement.specs.declared.configuration_error.ConfigurationError.{ConfigurationError}
use Rattle.stark_statement.specs.declared.configuration_error.ConfigurationError.TheVariants.{NotAnObject}
use Rattle.stark_statement.specs.declared.error.StatementError.{StatementError}

-- Why a JSON value is not read.
pub data StatementFault : Type 0 where
  not_json : StatementFault
  repeated_name : List ℕ → StatementFault
  not_an_object : StatementFault
  unknown_field : List ℕ → StatementFault
  unknown_config_member : List ℕ → StatementFault
  config_fault : ConfigurationError → StatementFault
  missing_field : List ℕ → StatementFault
  wrong_kind : List ℕ → StatementFault
  work_too_large : List ℕ → ℕ → StatementFault
  public_value_refused : ℕ → StatementFault
  air_fault : TreeFault → StatementFault
  public_values_count : ℕ → ℕ → StatementFault

-- The fault that an error names; want of memory names none.
abbrev pub statement_fault : StatementError → Option StatementFault
statement_fault StatementError.NotJson = Some not_json
statement_fault (StatementError.RepeatedName name line column) = Some (repeated_name (string_bytes name.name))
statement_fault StatementError.NotAnObject = Some not_an_object
statement_fault (StatementError.UnknownField name) = Some (unknown_field (string_bytes name.name))
statement_fault (StatementError.UnknownConfigMember name) = Some (unknown_config_member (string_bytes name.name))
statement_fault (StatementError.Config error) = Some (config_fault error)
statement_fault (StatementError.MissingField field) = Some (missing_field field.now)
statement_fault (StatementError.WrongKind field) = Some (wrong_kind field.now)
statement_fault (StatementError.WorkTooLarge field got) = Some (work_too_large field.now got)
statement_fault (StatementError.PublicValue index) = Some (public_value_refused index)
statement_fault (StatementError.Air error) = option_map air_fault (tree_fault error)
statement_fault (StatementError.PublicValuesCount expected got) = Some (public_values_count expected got)
statement_fault StatementError.OutOfMemory = None

-- What a decoder returned, seen by view, is what reading gives: the value, or the fault, unless memory ran out.
abbrev pub Decodes : {A : Type 0} {B : Type 0} → (A → B) → Result A StatementError → Result B StatementFault → Type 0
Decodes view (Ok a) reading = reading ≡ Ok (view a)
Decodes view (Err error) reading = IfSome (statement_fault error) (λ fault. reading ≡ Err fault)

infixl 10 ◌>>=◌
abbrev pub ◌>>=◌ : {A : Type 0} {B : Type 0} → Result A StatementFault → (A → Result B StatementFault) → Result B StatementFault
(Ok a) >>= f = f a
(Err e) >>= f = Err e

-- ---- the text

abbrev pub unless_repeated : Option (List ℕ) → Result ⊤ StatementFault
unless_repeated None = Ok tt
unless_repeated (Some name) = Err (repeated_name name)

-- no object of a text has a name twice
abbrev pub unrepeated : List ℕ → Result ⊤ StatementFault
unrepeated bytes = unless_repeated (repeated_in bytes)

-- ---- the members

-- the names of a statement's members
abbrev pub statement_names : List (List ℕ)
statement_names = codes "config" ∷ codes "air" ∷ codes "public_values" ∷ codes "alpha_bits" ∷ codes "ood_bits" ∷ codes "log_height" ∷ []

abbrev pub unless_unknown : (List ℕ → StatementFault) → Option (List ℕ) → Result ⊤ StatementFault
unless_unknown unknown None = Ok tt
unless_unknown unknown (Some name) = Err (unknown name)

-- an object without a member that no statement has
abbrev pub statement_members : Data → Result ⊤ StatementFault
statement_members d = ok_or (as_object d) not_an_object >>= λ ms. unless_unknown unknown_field (first_unknown statement_names ms)

-- an object without a member that no configuration has
abbrev pub config_members : Data → Result ⊤ StatementFault
config_members d = ok_or (as_object d) (config_fault NotAnObject) >>= λ ms. unless_unknown unknown_config_member (first_unknown config_names ms)

-- ---- the configuration

abbrev pub of_configuration : Result ConfigurationView ConfigurationError → Result ConfigurationView StatementFault
of_configuration (Ok config) = Ok config
of_configuration (Err error) = Err (config_fault error)

-- by the name of a set, or by its members
abbrev pub by_name_or_members : Data → Option (List ℕ) → Result ConfigurationView StatementFault
by_name_or_members d (Some name) = of_configuration (configuration_named name)
by_name_or_members d None = config_members d >>= λ known. of_configuration (configuration_at d)

unfoldable pub given_configuration : Data → Result ConfigurationView StatementFault
given_configuration d = by_name_or_members d (as_str d)

-- the default where no configuration is given
abbrev pub configuration_in : Option Data → Result ConfigurationView StatementFault
configuration_in None = Ok default_configuration
configuration_in (Some d) = given_configuration d

-- what a statement says of its configuration, or its first fault
unfoldable pub configuration_reading : Data → Result ConfigurationView StatementFault
configuration_reading d = do
  known ← statement_members d
  configuration_in (given_at (codes "config") d)

-- ---- fields

abbrev pub required : {A : Type 0} → List ℕ → (Data → Result A StatementFault) → Data → Result A StatementFault
required field reading d = ok_or (get field d) (missing_field field) >>= reading

-- bits of work; none where they are null
abbrev pub bits_unless_null : List ℕ → Data → Result ℕ StatementFault
bits_unless_null field d = if is_some (as_null d) then Ok 0 else ok_or (whole_at d) (wrong_kind field)

abbrev pub bits_in : List ℕ → Option Data → Result ℕ StatementFault
bits_in field None = Ok 0
bits_in field (Some d) = bits_unless_null field d

-- bits of work; none where the field is missing
abbrev pub given_bits : List ℕ → Data → Result ℕ StatementFault
given_bits field d = bits_in field (get field d)

-- More bits of work than these no element passes: what is tested are the last bits of a number of 64.
abbrev pub most_work : ℕ
most_work = 63

abbrev pub unless_too_large : List ℕ → ℕ → Result ℕ StatementFault
unless_too_large field bits = if nat_lt most_work bits then Err (work_too_large field bits) else Ok bits

-- bits of work that an element may pass
abbrev pub bits_at : List ℕ → Data → Result ℕ StatementFault
bits_at field d = given_bits field d >>= unless_too_large field

-- the logarithm of a height; none where it is missing or null
abbrev pub height_in : Option Data → Result (Option ℕ) StatementFault
height_in None = Ok None
height_in (Some d) = ok_or (whole_at d) (wrong_kind (codes "log_height")) >>= λ n. Ok (Some n)

abbrev pub height_at : Data → Result (Option ℕ) StatementFault
height_at d = height_in (given_at (codes "log_height") d)

abbrev pub of_air : {F : Type 0} → Result (AirView F) TreeFault → Result (AirView F) StatementFault
of_air (Ok air) = Ok air
of_air (Err fault) = Err (air_fault fault)

module _ {F : Type 0} (element : Data → Option F) where
  abbrev pub air_at : Data → Result (AirView F) StatementFault
  air_at d = of_air (air_reading element d)

  abbrev pub public_values_in : Result (List F) ℕ → Result (List F) StatementFault
  public_values_in (Ok xs) = Ok xs
  public_values_in (Err i) = Err (public_value_refused i)

  -- an array of elements
  abbrev pub public_values_at : Data → Result (List F) StatementFault
  public_values_at d = ok_or (as_array d) (wrong_kind (codes "public_values")) >>= λ ds. public_values_in (elements_from element 0 ds)

  -- the statement, unless the AIR declares another number of public values
  abbrev pub with_count : ConfigurationView → AirView F → List F → ℕ → ℕ → Option ℕ → Result (StatementView F) StatementFault
  with_count config air public_values alpha_bits ood_bits log_height =
      if length public_values == air.columns.public_values
      then Ok (record { config = config; air = air; public_values = public_values; alpha_bits = alpha_bits; ood_bits = ood_bits; log_height = log_height })
      else Err (public_values_count air.columns.public_values (length public_values))

  -- the statement that a JSON value spells, or its first fault
  unfoldable pub statement_reading : Data → Result (StatementView F) StatementFault
  statement_reading d = do
    config ← configuration_reading d
    air ← required (codes "air") air_at d
    public_values ← required (codes "public_values") public_values_at d
    alpha_bits ← bits_at (codes "alpha_bits") d
    ood_bits ← bits_at (codes "ood_bits") d
    log_height ← height_at d
    with_count config air public_values alpha_bits ood_bits log_height

  -- the statement that bytes spell, or its first fault
  unfoldable pub statement_in : List ℕ → Result (StatementView F) StatementFault
  statement_in bytes = ok_or (json_of bytes) not_json >>= λ d. (unrepeated bytes >>= λ known. statement_reading d)

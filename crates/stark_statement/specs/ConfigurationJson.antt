-- The JSON of a configuration: what a JSON value is read as, or its first fault.
use Rattle.std.specs.Prelude.{◌≡◌, ℕ, List, [], ◌∷◌, if◌then◌else◌, nat_lt, Option, None, Some, is_some, ok_or, Result, Ok, Err, codes, ⊤}
use Rattle.std.specs.Str.{bytes_eq}
use Rattle.serde_json.specs.Data.{Data}
use Rattle.serde_json.specs.Find.{get, as_null, as_str}
use Rattle.stark_support.specs.Json.{whole_at}
use Rattle.stark_fri_proof.specs.declared.parameters.FriParametersError.{FriParametersError}
use Rattle.stark_fri_proof.specs.declared.parameters.FriParametersError.TheVariants.{NoBlowup, BlowupTooLarge, FinalPolynomialTooLong, NoQueries, CommitWorkTooLarge, QueryWorkTooLarge}
use Rattle.stark_statement.specs.Configuration.{ConfigurationView, FriNumbers, default_configuration, default_numbers, fast_configuration, proved_100_configuration, two_adicity}
use Rattle.stark_statement.specs.declared.configuration.FieldName.{FieldName}
use Rattle.stark_statement.specs.declared.configuration.FieldName.TheVariants.{BabyBear, KoalaBear, F12289}
use Rattle.stark_statement.specs.declared.configuration_error.ConfigurationError.{ConfigurationError}
use Rattle.stark_statement.specs.declared.configuration_error.ConfigurationError.TheVariants.{WrongKind, UnknownField, UnknownScheme, NotInTheClear, Parameters, BlowupPastTwoAdicity, UnknownSet}
use Rattle.stark_statement.specs.declared.configuration_error.ConfigurationMember.{ConfigurationMember}
use Rattle.stark_statement.specs.declared.configuration_error.ConfigurationMember.TheVariants.{Field, Scheme, LogBlowup, LogFinalPolyLen, NumQueries, CommitProofOfWorkBits, QueryProofOfWorkBits}
use Rattle.stark_statement.specs.declared.configuration_json.SchemeName.{SchemeName}
use Rattle.stark_statement.specs.declared.configuration_json.SchemeName.TheVariants.{OfFri, OfClear}

infixl 10 ◌>>=◌
abbrev pub ◌>>=◌ : {A : Type 0} {B : Type 0} → Result A ConfigurationError → (A → Result B ConfigurationError) → Result B ConfigurationError
(Ok a) >>= f = f a
(Err e) >>= f = Err e

-- What a reader returned, seen by view, is what reading gives.
abbrev pub Reads : {A : Type 0} {B : Type 0} → (A → B) → Result A ConfigurationError → Result B ConfigurationError → Type 0
Reads view (Ok a) reading = reading ≡ Ok (view a)
Reads view (Err error) reading = reading ≡ Err error

-- ---- members

abbrev pub member_name : ConfigurationMember → List ℕ
member_name Field = codes "field"
member_name Scheme = codes "scheme"
member_name LogBlowup = codes "log_blowup"
member_name LogFinalPolyLen = codes "log_final_poly_len"
member_name NumQueries = codes "num_queries"
member_name CommitProofOfWorkBits = codes "commit_proof_of_work_bits"
member_name QueryProofOfWorkBits = codes "query_proof_of_work_bits"

-- the names of a configuration's members
abbrev pub config_names : List (List ℕ)
config_names =
    codes "field" ∷ codes "scheme" ∷ codes "log_blowup" ∷ codes "log_final_poly_len" ∷ codes "num_queries"
    ∷ codes "commit_proof_of_work_bits" ∷ codes "query_proof_of_work_bits" ∷ []

abbrev pub unless_null : Option Data → Option Data
unless_null None = None
unless_null (Some d) = if is_some (as_null d) then None else Some d

-- what there is under a name; nothing where it is null
abbrev pub given_at : List ℕ → Data → Option Data
given_at name d = unless_null (get name d)

-- ---- the field and the scheme

unfoldable pub field_named : List ℕ → Option FieldName
field_named name =
    if bytes_eq name (codes "baby_bear") then Some BabyBear
    else (if bytes_eq name (codes "koala_bear") then Some KoalaBear
    else (if bytes_eq name (codes "f12289") then Some F12289 else None))

unfoldable pub scheme_named : List ℕ → Option SchemeName
scheme_named name =
    if bytes_eq name (codes "fri") then Some OfFri
    else (if bytes_eq name (codes "clear") then Some OfClear else None)

-- a text that names something; the default where nothing is given
abbrev pub named_in : {A : Type 0} → ConfigurationMember → ConfigurationError → (List ℕ → Option A) → A → Option Data → Result A ConfigurationError
named_in place unknown named default None = Ok default
named_in place unknown named default (Some d) = ok_or (as_str d) (WrongKind place) >>= λ name. ok_or (named name) unknown

abbrev pub field_at : Data → Result FieldName ConfigurationError
field_at d = named_in Field UnknownField field_named BabyBear (given_at (codes "field") d)

abbrev pub scheme_at : Data → Result SchemeName ConfigurationError
scheme_at d = named_in Scheme UnknownScheme scheme_named OfFri (given_at (codes "scheme") d)

-- ---- the numbers

abbrev pub number_in : ConfigurationMember → ℕ → Option Data → Result ℕ ConfigurationError
number_in place default None = Ok default
number_in place default (Some d) = ok_or (whole_at d) (WrongKind place)

-- a whole number; the default where nothing is given
abbrev pub number_at : ConfigurationMember → ℕ → Data → Result ℕ ConfigurationError
number_at place default d = number_in place default (given_at (member_name place) d)

-- the first fault of FRI's numbers
abbrev pub numbers_fault : FriNumbers → Option FriParametersError
numbers_fault n =
    if nat_lt n.log_blowup 1 then Some NoBlowup
    else (if nat_lt 63 n.log_blowup then Some BlowupTooLarge
    else (if nat_lt 63 n.log_final_poly_len then Some FinalPolynomialTooLong
    else (if nat_lt n.num_queries 1 then Some NoQueries
    else (if nat_lt 63 n.commit_bits then Some CommitWorkTooLarge
    else (if nat_lt 63 n.query_bits then Some QueryWorkTooLarge
    else None)))))

abbrev pub numbers_unless : Option FriParametersError → FriNumbers → Result FriNumbers ConfigurationError
numbers_unless None n = Ok n
numbers_unless (Some fault) n = Err (Parameters fault)

abbrev pub without_fault : FriNumbers → Result FriNumbers ConfigurationError
without_fault n = numbers_unless (numbers_fault n) n

unfoldable pub numbers_at : Data → Result FriNumbers ConfigurationError
numbers_at d = do
  log_blowup ← number_at LogBlowup default_numbers.log_blowup d
  log_final_poly_len ← number_at LogFinalPolyLen default_numbers.log_final_poly_len d
  num_queries ← number_at NumQueries default_numbers.num_queries d
  commit_bits ← number_at CommitProofOfWorkBits default_numbers.commit_bits d
  query_bits ← number_at QueryProofOfWorkBits default_numbers.query_bits d
  without_fault (record { log_blowup = log_blowup; log_final_poly_len = log_final_poly_len; num_queries = num_queries; commit_bits = commit_bits; query_bits = query_bits })

-- the numbers, of which the blow-up has to fit the field
abbrev pub fitting : FieldName → FriNumbers → Result FriNumbers ConfigurationError
fitting field n =
    if nat_lt (two_adicity field) n.log_blowup then Err (BlowupPastTwoAdicity (two_adicity field) n.log_blowup) else Ok n

abbrev pub fri_at : FieldName → Data → Result FriNumbers ConfigurationError
fri_at field d = numbers_at d >>= fitting field

-- ---- the scheme in the clear

abbrev pub not_given : ConfigurationMember → Data → Result ⊤ ConfigurationError
not_given place d = if is_some (given_at (member_name place) d) then Err (NotInTheClear place) else Ok tt

-- None of FRI's numbers is given.
unfoldable pub no_numbers : Data → Result ⊤ ConfigurationError
no_numbers d = do
  blowup ← not_given LogBlowup d
  final ← not_given LogFinalPolyLen d
  queries ← not_given NumQueries d
  commit ← not_given CommitProofOfWorkBits d
  not_given QueryProofOfWorkBits d

-- ---- the whole

abbrev pub with_fri : FieldName → FriNumbers → Result ConfigurationView ConfigurationError
with_fri field n = Ok (record { field = field; fri = Some n })

abbrev pub in_the_clear : FieldName → ⊤ → Result ConfigurationView ConfigurationError
in_the_clear field nothing = Ok (record { field = field; fri = None })

abbrev pub of_scheme : FieldName → Data → SchemeName → Result ConfigurationView ConfigurationError
of_scheme field d OfFri = fri_at field d >>= with_fri field
of_scheme field d OfClear = no_numbers d >>= in_the_clear field

-- the configuration that an object of known members spells, or its first fault
unfoldable pub configuration_at : Data → Result ConfigurationView ConfigurationError
configuration_at d = do
  field ← field_at d
  scheme ← scheme_at d
  of_scheme field d scheme

-- ---- sets with a name

unfoldable pub configuration_named : List ℕ → Result ConfigurationView ConfigurationError
configuration_named name =
    if bytes_eq name (codes "default") then Ok default_configuration
    else (if bytes_eq name (codes "fast") then Ok fast_configuration
    else (if bytes_eq name (codes "proved_100") then Ok proved_100_configuration else Err UnknownSet))

-- What is said by the scheme and over the field that a configuration names.
use Rattle.std.specs.Prelude.{◌≡◌, ◌⊎◌, ℕ, ◌≤◌, List, Option, None, Some, Result, Ok, Err, ⊤}
use Rattle.serde_json.specs.Data.{Data}
use Rattle.stark_json.specs.declared.document.Document.{Document}
use Rattle.stark_fri_proof.specs.declared.parameters.FriParameters.{FriParameters}
use Rattle.stark_statement.specs.Repeats.{statement_json}
use Rattle.stark_statement.specs.Configuration.{ConfigurationView, FriNumbers, IsWithinField, configuration_view, fri_numbers}
use Rattle.stark_statement.specs.StatementApart.{data_of}
use Rattle.stark_statement.specs.StatementJson.{configuration_reading}
use Rattle.stark_statement.specs.declared.configuration.Configuration.{Configuration}
use Rattle.stark_statement.specs.declared.configuration.FieldName.{FieldName}
use Rattle.stark_statement.specs.declared.configuration.FieldName.TheVariants.{BabyBear, KoalaBear, F12289}
use Rattle.stark_statement.specs.declared.configuration.SchemeChoice.{SchemeChoice}
use Rattle.stark_statement.specs.declared.configuration.SchemeChoice.TheVariants.{Fri, Clear}
use Rattle.stark_answers.specs.declared.report.Report.{Report}
use Rattle.stark_answers.specs.declared.verdict.Verdict.{Verdict}
use Rattle.stark_answers.specs.declared.verdict.Verdict.TheVariants as verdict

-- This holds of the scheme that is run with these numbers.
abbrev pub WithNumbers : {S : Type 0} → (S → FriParameters) → FriNumbers → (S → Type 0) → Type 0
WithNumbers {S} parameters_of numbers Holds = (s : S) × (fri_numbers (parameters_of s) ≡ numbers) × Holds s

-- By the scheme: FRI with its numbers, or in the clear.
abbrev pub ByScheme : Option FriNumbers → (FriNumbers → Type 0) → Type 0 → Type 0
ByScheme (Some numbers) by_fri in_the_clear = by_fri numbers
ByScheme None by_fri in_the_clear = in_the_clear

-- The field has a group for the blow-up.
abbrev pub HasRoomFor : ℕ → SchemeChoice → Type 0
HasRoomFor adicity (Fri parameters) = parameters.log_blowup ≤ adicity
HasRoomFor adicity Clear = ⊤

-- Over the field.
abbrev pub OverField : FieldName → Type 0 → Type 0 → Type 0 → Type 0
OverField BabyBear over_baby_bear over_koala_bear over_12289 = over_baby_bear
OverField KoalaBear over_baby_bear over_koala_bear over_12289 = over_koala_bear
OverField F12289 over_baby_bear over_koala_bear over_12289 = over_12289

-- Of a JSON value that names a configuration; else the input is bad.
abbrev pub IsSaidOfValue : {V Fault : Type 0} → (Verdict → V) → (ConfigurationView → V → Type 0) → Result ConfigurationView Fault → V → Type 0
IsSaidOfValue of_verdict IsSaid (Err fault) v = v ≡ of_verdict verdict.BadInput
IsSaidOfValue of_verdict IsSaid (Ok c) v = IsSaid c v

-- Of bytes that spell one, where no object has a name twice; else the input is bad.
abbrev pub IsSaidOfJson : {V : Type 0} → (Verdict → V) → (ConfigurationView → Data → V → Type 0) → Option Data → V → Type 0
IsSaidOfJson of_verdict IsSaid None v = v ≡ of_verdict verdict.BadInput
IsSaidOfJson of_verdict IsSaid (Some d) v = IsSaidOfValue of_verdict (λ c. IsSaid c d) (configuration_reading d) v

unfoldable pub IsSaidOfBytes : {V : Type 0} → (Verdict → V) → (ConfigurationView → Data → V → Type 0) → List ℕ → V → Type 0
IsSaidOfBytes of_verdict IsSaid bytes v = IsSaidOfJson of_verdict IsSaid (statement_json bytes) v

-- The bytes spell a value that names a configuration, and this holds of both.
abbrev pub HoldsOfValue : {Fault : Type 0} → (ConfigurationView → Type 0) → Result ConfigurationView Fault → Type 0
HoldsOfValue Holds (Err fault) = ⊥
HoldsOfValue Holds (Ok c) = Holds c

abbrev pub HoldsOfJson : (ConfigurationView → Data → Type 0) → Option Data → Type 0
HoldsOfJson Holds None = ⊥
HoldsOfJson Holds (Some d) = HoldsOfValue (λ c. Holds c d) (configuration_reading d)

unfoldable pub HoldsOfBytes : (ConfigurationView → Data → Type 0) → List ℕ → Type 0
HoldsOfBytes Holds bytes = HoldsOfJson Holds (statement_json bytes)

-- There is no configuration.
abbrev pub IsUnconfigured : Option Data → Type 0
IsUnconfigured None = ⊤
IsUnconfigured (Some d) = (c : ConfigurationView) → configuration_reading d ≡ Ok c → ⊥

-- A statement's JSON and its configuration were read, which fits its field; or the report says why not: there is none, or an allocation failed.
abbrev pub ReadsConfigured : Result (Document × Configuration) (Report Verdict) → List ℕ → Type 0
ReadsConfigured (Ok read) bytes = (statement_json bytes ≡ Some (data_of read.0)) × (configuration_reading (data_of read.0) ≡ Ok (configuration_view read.1)) × IsWithinField read.1
ReadsConfigured (Err report) bytes = (report.answer ≡ verdict.OutOfMemory) ⊎ (IsUnconfigured (statement_json bytes) × (report.answer ≡ verdict.BadInput))

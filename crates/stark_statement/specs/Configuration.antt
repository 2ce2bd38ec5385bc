-- Over which field and with which scheme a statement is proved.
use Rattle.std.specs.Prelude.{ℕ, ◌≤◌, Option, None, Some, ⊤}
use Rattle.stark_fri_proof.specs.declared.parameters.FriParameters.{FriParameters}
use Rattle.stark_statement.specs.declared.configuration.Configuration.{Configuration}
use Rattle.stark_statement.specs.declared.configuration.FieldName.{FieldName}
use Rattle.stark_statement.specs.declared.configuration.FieldName.TheVariants.{BabyBear, KoalaBear, F12289}
use Rattle.stark_statement.specs.declared.configuration.SchemeChoice.{SchemeChoice}
use Rattle.stark_statement.specs.declared.configuration.SchemeChoice.TheVariants.{Fri, Clear}

-- the numbers that FRI is run with
pub record FriNumbers : Type 0 where
  pub log_blowup : ℕ
  pub log_final_poly_len : ℕ
  pub num_queries : ℕ
  pub commit_bits : ℕ
  pub query_bits : ℕ

-- the field, and the numbers of FRI; none for the scheme in the clear
pub record ConfigurationView : Type 0 where
  pub field : FieldName
  pub fri : Option FriNumbers

abbrev pub fri_numbers : FriParameters → FriNumbers
fri_numbers p = record {
  log_blowup = p.log_blowup;
  log_final_poly_len = p.log_final_poly_len;
  num_queries = p.num_queries;
  commit_bits = p.commit_proof_of_work_bits;
  query_bits = p.query_proof_of_work_bits;
}

abbrev pub scheme_numbers : SchemeChoice → Option FriNumbers
scheme_numbers (Fri p) = Some (fri_numbers p)
scheme_numbers Clear = None

abbrev pub configuration_view : Configuration → ConfigurationView
configuration_view c = record { field = c.field; fri = scheme_numbers c.scheme }

-- the logarithm of the greatest power of two that divides the order of the field's units
abbrev pub two_adicity : FieldName → ℕ
two_adicity BabyBear = 27
two_adicity KoalaBear = 24
two_adicity F12289 = 12

-- The field has roots of unity enough for a blow-up of one row.
abbrev pub FitsField : FieldName → SchemeChoice → Type 0
FitsField field (Fri p) = p.log_blowup ≤ two_adicity field
FitsField field Clear = ⊤

abbrev pub IsWithinField : Configuration → Type 0
IsWithinField c = FitsField c.field c.scheme

-- ---- what is meant where nothing is said

abbrev pub default_numbers : FriNumbers
default_numbers = record { log_blowup = 2; log_final_poly_len = 0; num_queries = 120; commit_bits = 0; query_bits = 16 }

abbrev pub default_configuration : ConfigurationView
default_configuration = record { field = BabyBear; fri = Some default_numbers }

-- ---- sets with a name

abbrev pub fast_configuration : ConfigurationView
fast_configuration = record { field = BabyBear; fri = Some (record { log_blowup = 1; log_final_poly_len = 0; num_queries = 85; commit_bits = 0; query_bits = 16 }) }

abbrev pub proved_100_configuration : ConfigurationView
proved_100_configuration = record { field = BabyBear; fri = Some (record { log_blowup = 1; log_final_poly_len = 0; num_queries = 220; commit_bits = 0; query_bits = 16 }) }

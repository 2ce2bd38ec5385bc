-- From what is set up of a statement's columns to the file of its key.
use Rattle.std.proofs.Common.{◌≡◌, ◌≤◌, false, inl, inr, subst, ℕ, List, Some, Result, Ok, Err, IfOk}
use Rattle.std.specs.declared.vec.Vec.{Vec}
use Rattle.stark_air.specs.Declaration.{Trace}
use Rattle.stark_protocol.specs.Preprocessing.{HasHeight, has_columns}
use Rattle.stark_statement.specs.StatementView.{StatementView}
use Rattle.stark_answers.specs.CheckedAir.{CheckedAir}
use Rattle.stark_answers.specs.declared.report.Report.{Report}
use Rattle.stark_answers.specs.declared.verdict.Verdict.{Verdict}
use Rattle.stark_answers.specs.declared.verdict.Verdict.TheVariants as verdict
use Rattle.stark_service.specs.Service.{ServiceOps}
use Rattle.stark_service.specs.StatementAir.{declared_of}
use Rattle.stark_service.specs.Statements.{HasNoRows, HasRows}
use Rattle.stark_keys.specs.Keys.{IsKeyFile, IsMadeOn, OrNotMade, made_of, most}

-- The number of rows, by another name of what the AIR declares.
pub has_rows : {F : Type 0} (greatest : ℕ) (air declared : CheckedAir F) (log_rows : ℕ) → air ≡ declared → HasHeight log_rows air.preprocessed_trace → log_rows ≤ greatest → HasRows greatest declared log_rows
has_rows {F} greatest air declared log_rows declares height within = record { height = subst (λ (a : CheckedAir F). HasHeight log_rows a.preprocessed_trace) declares height; within = within }

-- What it declares, by another name.
pub no_columns : {F : Type 0} (air declared : CheckedAir F) → air ≡ declared → has_columns air.preprocessed_trace ≡ false → has_columns declared.preprocessed_trace ≡ false
no_columns {F} air declared declares none = subst (λ (a : CheckedAir F). has_columns a.preprocessed_trace ≡ false) declares none

pub declared_trace : {F : Type 0} (air declared : CheckedAir F) (trace : Trace F) → air ≡ declared → air.preprocessed_trace ≡ Some trace → declared.preprocessed_trace ≡ Some trace
declared_trace {F} air declared trace declares is = subst (λ (a : CheckedAir F). a.preprocessed_trace ≡ Some trace) declares is

module _ {S F E C K T P X Y : Type 0} (ops : ServiceOps S F E C K T P X Y) (scheme : S) (s : StatementView F) where
  pub file_is_made : (bytes : List ℕ) → IsKeyFile ops scheme s bytes → OrNotMade (IsMadeOn ops scheme s) (Ok bytes)
  unfolding IsMadeOn
  file_is_made bytes is = inr is

  pub none_is_made : (v : Verdict) → HasNoRows (most ops scheme s) (declared_of s.air) → v ≡ verdict.BadInput → OrNotMade (IsMadeOn ops scheme s) (Err v)
  unfolding IsMadeOn
  none_is_made v none is = inr (none, is)

-- What is made is the file of a key.
pub file_of_made : {G : Type 0} (IsMade : Result (List ℕ) Verdict → Type 0) (made : Result (Vec ℕ G) (Report Verdict)) → OrNotMade IsMade (made_of made) → IfOk made (λ bytes. IsMade (Ok bytes.items))
file_of_made IsMade (Ok bytes) (inl memory) = absurd (let clash : Ok bytes.items ≡ Err verdict.OutOfMemory = memory in cc)
file_of_made IsMade (Ok bytes) (inr is) = is
file_of_made IsMade (Err report) is = tt

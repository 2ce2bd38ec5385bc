-- What is said of a statement, beside a proof or a trace.
use Rattle.std.specs.Prelude.{◌≡◌, ◌⊎◌, ℕ, ◌<◌, ◌≤◌, if◌then◌else◌, List, Option, None, Some, Result, Ok, Err, nat_eq}
use Rattle.std.specs.List.{starts_with}
use Rattle.std.specs.Result.{result_ok}
use Rattle.serde_json.specs.Data.{Data}
use Rattle.stark_support.specs.Json.{◌>>=◌, json_of}
use Rattle.stark_support.specs.declared.json.JsonFault.{JsonFault}
use Rattle.stark_support.specs.declared.json.JsonFault.TheVariants.{Invalid, OutOfMemory}
-- the rows that a file spells: an array of arrays of elements
unfoldable pub use Rattle.stark_trace_json.specs.Rows.{rows_in}
use Rattle.stark_trace_json.specs.Rows.{AreRowsIn, SpellsNoTrace}
use Rattle.stark_trace_json.specs.declared.fault.RowsFault.{RowsFault}
use Rattle.stark_trace_json.specs.declared.fault.RowsFault.TheVariants as unread
use Rattle.stark_trace_json.specs.declared.rows.TraceRows.{TraceRows}
use Rattle.stark_air.specs.Declaration.{IsDeclared}
use Rattle.stark_air.specs.Layout.{LeavesWithin}
use Rattle.stark_proof.specs.ProofJson.{ProofFault}
use Rattle.stark_proof.specs.ProofView.{ProofView}
use Rattle.stark_proof_bytes.specs.ProofBytes.{ProofCodecs, magic, proof_reading}
use Rattle.stark_protocol.specs.Preprocessing.{HasHeight}
use Rattle.stark_statement.specs.StatementJson.{StatementFault}
use Rattle.stark_statement.specs.Limits.{IsWithin, limits_under}
use Rattle.stark_statement.specs.StatementView.{StatementView, statement_view}
use Rattle.stark_statement.specs.declared.statement.Statement.{Statement}
use Rattle.stark_answers.specs.CheckedAir.{CheckedAir, shape_of}
use Rattle.stark_answers.specs.Prove.{IsProofFile, IsProved}
use Rattle.stark_answers.specs.SoundRun.{IsSoundOfTaken, IsSoundWithKey, Listed}
use Rattle.stark_answers.specs.TraceShape.{FitsShape, trace_of}
use Rattle.stark_answers.specs.Verify.{IsVerdict}
use Rattle.stark_answers.specs.declared.finding.Finding.{Finding}
use Rattle.stark_answers.specs.declared.finding.Finding.TheVariants as finding
use Rattle.stark_answers.specs.declared.report.Report.{Report}
use Rattle.stark_answers.specs.declared.task.ProofForm.{ProofForm}
use Rattle.stark_answers.specs.declared.task.TraceTask.{TraceTask}
use Rattle.stark_answers.specs.declared.task.TraceTask.TheVariants as task
use Rattle.stark_answers.specs.declared.verdict.Refusal.TheVariants as refusal
use Rattle.stark_answers.specs.declared.verdict.Verdict.{Verdict}
use Rattle.stark_answers.specs.declared.verdict.Verdict.TheVariants as verdict
use Rattle.stark_service.specs.StatementAir.{declared_of}
use Rattle.stark_service.specs.Service.{ServiceOps, proof_file}
use Rattle.stark_service.specs.Heights.{AtFixedHeight, UnlessOfOtherHeight, has_fixed_height, height_fault}
use Rattle.stark_service.specs.TraceChecks.{IsCheckedWithRows, IsFirstChecked}

-- ---- what files spell

-- the proof that a JSON text spells
unfoldable pub proof_in_json : {K E P F : Type 0} → (Data → Result (ProofView K E P F) ProofFault) → List ℕ → Option (ProofView K E P F)
proof_in_json reading bytes = json_of bytes >>= λ d. result_ok (reading d)

-- the proof that bytes name
unfoldable pub proof_in_bytes : {K E P F : Type 0} → ProofCodecs K E P F → List ℕ → Option (ProofView K E P F)
proof_in_bytes codecs bytes = result_ok (proof_reading codecs bytes)

-- the proof that a file spells: as bytes where it begins as those do, which no JSON text does, and else as JSON
unfoldable pub proof_in : {K E P F : Type 0} → (Data → Result (ProofView K E P F) ProofFault) → ProofCodecs K E P F → List ℕ → Option (ProofView K E P F)
proof_in reading codecs bytes = if starts_with nat_eq bytes magic then proof_in_bytes codecs bytes else proof_in_json reading bytes

-- what is said where nothing was read: an allocation failed, or there is a fault
abbrev pub verdict_without : {Fault : Type 0} → Option Fault → Verdict
verdict_without None = verdict.OutOfMemory
verdict_without (Some fault) = verdict.BadInput

-- what is said where a text wasn't read
abbrev pub verdict_of_fault : JsonFault → Verdict
verdict_of_fault Invalid = verdict.BadInput
verdict_of_fault OutOfMemory = verdict.OutOfMemory

-- what is said where the rows of a trace weren't read
abbrev pub verdict_of_rows : RowsFault → Verdict
verdict_of_rows unread.OutOfMemory = verdict.OutOfMemory
verdict_of_rows unread.NoJson = verdict.BadInput
verdict_of_rows unread.NoArray = verdict.BadInput
verdict_of_rows (unread.NoRow row) = verdict.BadInput
verdict_of_rows (unread.NoElement row column value) = verdict.BadInput
verdict_of_rows (unread.Uneven row expected got) = verdict.BadInput

-- A part was read as this, or the report says why not: the file spells none, or an allocation failed.
abbrev pub ReadsPart : {X Y : Type 0} → (X → Y) → Result X (Report Verdict) → Option Y → Type 0
ReadsPart view (Ok x) reading = reading ≡ Some (view x)
ReadsPart view (Err report) reading = (report.answer ≡ verdict.OutOfMemory) ⊎ ((reading ≡ None) × (report.answer ≡ verdict.BadInput))

-- Rows of one length were read, or the report says why not: the file spells none, or an allocation failed.
abbrev pub ReadsRows : {F : Type 0} → Result (TraceRows F) (Report Verdict) → Option (List (List F)) → Type 0
ReadsRows (Ok rows) reading = AreRowsIn rows reading
ReadsRows (Err report) reading = (report.answer ≡ verdict.OutOfMemory) ⊎ (SpellsNoTrace reading × (report.answer ≡ verdict.BadInput))

-- This is said, or an allocation failed.
abbrev pub OrUnjudged : (Verdict → Type 0) → Verdict → Type 0
OrUnjudged IsSaid v = (v ≡ verdict.OutOfMemory) ⊎ IsSaid v

-- ---- limits of a statement's AIR

module _ {F : Type 0} where
  -- An AIR passes none of the limits under its scheme.
  abbrev pub IsWithinLimits : StatementView F → Type 0
  IsWithinLimits s = IsWithin (limits_under s.config.fri) s.air

  -- It passes one.
  abbrev pub PassesLimit : StatementView F → Type 0
  PassesLimit s = IsWithinLimits s → ⊥

-- what is said of a statement whose AIR passes a limit
abbrev pub too_large : Verdict
too_large = verdict.Refused refusal.AirTooLarge

module _ {F : Type 0} where
  -- This is said of a reading that gives no statement within the limits.
  unfoldable pub IsSaidOfNone : Result (StatementView F) StatementFault → Verdict → Type 0
  IsSaidOfNone (Err fault) v = v ≡ verdict.BadInput
  IsSaidOfNone (Ok s) v = PassesLimit s × (v ≡ too_large)

  -- A statement within the limits was read as this, or the report says why not.
  abbrev pub ReadsStatement : Result (Statement F) (Report Verdict) → Result (StatementView F) StatementFault → Type 0
  ReadsStatement (Ok statement) reading = (reading ≡ Ok (statement_view statement)) × IsWithinLimits (statement_view statement)
  ReadsStatement (Err report) reading = (report.answer ≡ verdict.OutOfMemory) ⊎ IsSaidOfNone reading report.answer

  -- Of what was read, if a statement was and its AIR passes no limit; else the verdict says that the input is bad or the AIR too large.
  unfoldable pub IsSaidOfRead : {V : Type 0} → (Verdict → V) → (StatementView F → V → Type 0) → Result (StatementView F) StatementFault → V → Type 0
  IsSaidOfRead of_verdict IsSaid (Err fault) v = v ≡ of_verdict verdict.BadInput
  IsSaidOfRead of_verdict IsSaid (Ok s) v = (IsWithinLimits s × IsSaid s v) ⊎ (PassesLimit s × (v ≡ of_verdict too_large))

  -- A statement was read, and this holds of it.
  unfoldable pub HoldsOfRead : (StatementView F → Type 0) → Result (StatementView F) StatementFault → Type 0
  HoldsOfRead Holds (Err fault) = ⊥
  HoldsOfRead Holds (Ok s) = Holds s

-- ---- a statement's AIR

-- An AIR's preprocessed columns have 2 ^ log_rows rows, at most 2 ^ greatest.
pub record HasRows {F : Type 0} (greatest : ℕ) (air : CheckedAir F) (log_rows : ℕ) : Type 0 where
  pub height : HasHeight log_rows air.preprocessed_trace
  pub within : log_rows ≤ greatest

-- They have no such number of rows.
abbrev pub HasNoRows : {F : Type 0} → ℕ → CheckedAir F → Type 0
HasNoRows greatest air = (log_rows : ℕ) → HasRows greatest air log_rows → ⊥

-- An AIR's constraints read within its columns and values, of which there are as many as it declares.
pub record ReadsDeclared {F : Type 0} (air : CheckedAir F) : Type 0 where
  pub within : LeavesWithin air.layout air.constraints
  pub counted : IsDeclared air.layout air.preprocessed_trace air.periodic_columns air.next_columns air.preprocessed_next_columns

-- ---- verdicts and findings

-- With a scheme, and a challenger in the state that it has once it has observed the statement.
module _ {S F E C K T P X Y : Type 0} (ops : ServiceOps S F E C K T P X Y) (scheme : S) (first_state : C) (s : StatementView F) where
  -- the logarithm of the greatest height
  abbrev pub greatest : ℕ
  greatest = ops.protocol.opening.scheme.log_max_trace_height scheme

  -- With the key for 2 ^ log_rows rows the verdict is the verifier's, unless the statement fixes another height than the proof's; a file
  -- that spells no proof is bad input.
  unfoldable pub IsVerdictWithRows : ℕ → Option (ProofView K E P F) → Verdict → Type 0
  IsVerdictWithRows log_rows None v = v ≡ verdict.BadInput
  IsVerdictWithRows log_rows (Some p) v =
      UnlessOfOtherHeight (height_fault s.log_height p.degree_bits) (λ u. IsVerdict ops.protocol log_rows scheme first_state (declared_of s.air) p s.public_values s.ood_bits s.alpha_bits u) v

  -- The AIR reads what it declares, and the verdict is the verifier's; or its preprocessed columns have no number of rows that a key
  -- can have, and the statement is bad input.
  unfoldable pub IsVerdictOn : Option (ProofView K E P F) → Verdict → Type 0
  IsVerdictOn read v = ReadsDeclared (declared_of s.air)
      × (((log_rows : ℕ) × HasRows greatest (declared_of s.air) log_rows × IsVerdictWithRows log_rows read v) ⊎ (HasNoRows greatest (declared_of s.air) × (v ≡ verdict.BadInput)))

  unfoldable pub IsSoundOfTakenWithRows : ℕ → Option (ProofView K E P F) → Type 0
  IsSoundOfTakenWithRows log_rows None = ⊥
  IsSoundOfTakenWithRows log_rows (Some p) = IsSoundOfTaken ops.protocol log_rows scheme first_state (declared_of s.air) p s.public_values s.ood_bits s.alpha_bits

  -- Whatever columns take the opened values of the proof that was read break no constraint of the statement's AIR, unless a challenge is bad.
  unfoldable pub IsSoundOfTakenOn : Option (ProofView K E P F) → Type 0
  IsSoundOfTakenOn read = (log_rows : ℕ) × HasRows greatest (declared_of s.air) log_rows × IsSoundOfTakenWithRows log_rows read

  -- The rows are a trace of the AIR's, and the finding is its proof in a form, or names the first cause why there is none; rows that
  -- are no trace of the AIR's are bad input, and so is a file that spells no rows.
  unfoldable pub IsFoundWithRows : ProofForm → ℕ → Option (List (List F)) → Finding → Type 0
  IsFoundWithRows form log_rows None f = f ≡ finding.Verdict verdict.BadInput
  IsFoundWithRows form log_rows (Some rows) f =
      ((height : ℕ) × FitsShape (shape_of (declared_of s.air)) log_rows greatest rows s.public_values height
      × IsProved ops.protocol ops.coordinates form (proof_file ops form) log_rows scheme first_state (declared_of s.air) height (trace_of (declared_of s.air).layout.main rows) s.public_values s.ood_bits s.alpha_bits f)
      ⊎ (((height : ℕ) → FitsShape (shape_of (declared_of s.air)) log_rows greatest rows s.public_values height → ⊥) × (f ≡ finding.Verdict verdict.BadInput))

  -- What is found of the rows under a task: what a check finds, what a prover finds, or what a prover finds where a check finds the trace
  -- satisfying, and else what the check finds.
  unfoldable pub IsAnswerWithRows : TraceTask → ℕ → Option (List (List F)) → Finding → Type 0
  IsAnswerWithRows task.Check log_rows read f = IsCheckedWithRows ops.protocol.opening.fields ops.number greatest s log_rows read f
  IsAnswerWithRows (task.Prove form) log_rows read f = IsFirstChecked (IsCheckedWithRows ops.protocol.opening.fields ops.number greatest s log_rows read) (IsFoundWithRows form log_rows read) f
  IsAnswerWithRows (task.ProveUnchecked form) log_rows read f = IsFoundWithRows form log_rows read f

  -- This is found of rows as many as the statement fixes; others are bad input.
  unfoldable pub IsAnswerAtHeight : TraceTask → ℕ → Option (List (List F)) → Finding → Type 0
  IsAnswerAtHeight asked log_rows read f = AtFixedHeight (has_fixed_height s.log_height read) (IsAnswerWithRows asked log_rows read) f

  -- The AIR has main columns, and this is found of the rows, with what is set up for those of its preprocessed columns; or it has none,
  -- or they have no number of rows that a key can have, and the statement is bad input.
  unfoldable pub IsAnswerOn : TraceTask → Option (List (List F)) → Finding → Type 0
  IsAnswerOn asked read f = ((log_rows : ℕ) × (0 < (declared_of s.air).layout.main) × HasRows greatest (declared_of s.air) log_rows × IsAnswerAtHeight asked log_rows read f)
      ⊎ ((((declared_of s.air).layout.main ≡ 0) ⊎ HasNoRows greatest (declared_of s.air)) × (f ≡ finding.Verdict verdict.BadInput))

  unfoldable pub IsFileWithRows : ProofForm → ℕ → Option (List (List F)) → List ℕ → Type 0
  IsFileWithRows form log_rows None file = ⊥
  IsFileWithRows form log_rows (Some rows) file = (height : ℕ) × FitsShape (shape_of (declared_of s.air)) log_rows greatest rows s.public_values height
      × IsProofFile ops.protocol ops.coordinates (proof_file ops form) log_rows scheme first_state (declared_of s.air) height (trace_of (declared_of s.air).layout.main rows) s.public_values s.ood_bits s.alpha_bits file

  -- The bytes are the file of a proof in a form, of the trace that was read.
  unfoldable pub IsFileOn : ProofForm → Option (List (List F)) → List ℕ → Type 0
  IsFileOn form read file = (log_rows : ℕ) × (0 < (declared_of s.air).layout.main) × HasRows greatest (declared_of s.air) log_rows × IsFileWithRows form log_rows read file

-- Soundness, with commitments that list their columns.
module _ {S F E C T P X Y : Type 0} (ops : ServiceOps S F E C (Listed F) T P X Y) (scheme : S) (first_state : C) (s : StatementView F) where
  unfoldable pub IsSoundWithRows : ℕ → Option (ProofView (Listed F) E P F) → Type 0
  IsSoundWithRows log_rows None = ⊥
  IsSoundWithRows log_rows (Some p) = IsSoundWithKey ops.protocol log_rows scheme first_state (declared_of s.air) p s.public_values s.ood_bits s.alpha_bits

  -- The columns that the proof lists which was read break no constraint of the statement's AIR, unless a challenge is bad.
  unfoldable pub IsSoundOn : Option (ProofView (Listed F) E P F) → Type 0
  IsSoundOn read = (log_rows : ℕ) × HasRows (greatest ops scheme first_state s) (declared_of s.air) log_rows × IsSoundWithRows log_rows read

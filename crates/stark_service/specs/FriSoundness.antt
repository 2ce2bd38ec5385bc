-- What a proof by FRI that is accepted for a statement shows.
use Rattle.std.specs.Prelude.{ℕ, ◌^◌, ◌<◌, List, Option, None, Some}
use Rattle.stark_air.specs.Declaration.{trace_width}
use Rattle.stark_merkle.specs.declared.root.Root.{Root}
use Rattle.stark_fri_proof.specs.Parts.{FriProofView}
use Rattle.stark_fri_proof.specs.declared.parameters.FriParameters.{FriParameters}
use Rattle.stark_fri.specs.Parts.{FriOps}
use Rattle.stark_over_fri.specs.Tables.{FewBadDrawsOfTables, TablesAreSoundBeside, TablesAreSoundBesideOwn}
use Rattle.stark_proof.specs.ProofView.{ProofView}
use Rattle.stark_protocol.specs.Acceptance.{Accepted}
use Rattle.stark_protocol.specs.Instance.{Instance}
use Rattle.stark_protocol.specs.declared.preprocessed.PreprocessedVerifierKey.{PreprocessedVerifierKey}
use Rattle.stark_verifier.specs.SoundAcceptance.{BreakingNeedsBadChallenges}
use Rattle.stark_statement.specs.StatementView.{StatementView}
use Rattle.stark_answers.specs.SoundRun.{InterpolateDeclared}
use Rattle.stark_answers.specs.Verify.{IsKey, instance_of}
use Rattle.stark_service.specs.Service.{ServiceOps}
use Rattle.stark_service.specs.StatementAir.{declared_of}
use Rattle.stark_service.specs.Statements.{HasRows, greatest}

module _ {S F E C T P X Y : Type 0} (ops : ServiceOps S F E C Root T P X Y) (fri : FriOps C F E) (parameters_of : S → FriParameters) (proof_of : P → FriProofView F E) (scheme : S) (first_state : C) (s : StatementView F) where
  -- What the verifier judges with a key.
  abbrev pub judged_with : Option (PreprocessedVerifierKey Root) → Instance S F C Root
  judged_with key = instance_of (declared_of s.air) scheme first_state s.ood_bits s.alpha_bits s.public_values key

  -- Columns of degree below 2 ^ log_rows take the declared preprocessed rows.
  abbrev pub TakeDeclared : ℕ → List (List F) → Type 0
  TakeDeclared log_rows known = InterpolateDeclared ops.protocol.opening.fields.base ops.protocol.opening.fields.root log_rows (declared_of s.air).preprocessed_trace known

  -- The proof is accepted under a key that the owner's set-up makes of the declared rows. Beside columns that take these rows, whatever tables
  -- of the trace, the chunks and the folds lead to the proof's roots are near to columns that satisfy the statement's AIR, or one of few draws
  -- was made, or the trees' hash collides. Of the key's root nothing is asked, where fewer than 2^32 columns are declared: the rows lead to it.
  -- Whatever columns take the opened values satisfy the AIR, or alpha or zeta is bad for them.
  pub record IsSoundByFri (log_rows : ℕ) (p : ProofView Root E P F) : Type 0 where
    pub key : Option (PreprocessedVerifierKey Root)
    pub is_key : IsKey ops.protocol log_rows scheme (declared_of s.air).preprocessed_trace key
    pub accepted : Accepted ops.protocol (judged_with key) p
    pub tables : (known : List (List F)) → TakeDeclared log_rows known → TablesAreSoundBeside ops.protocol fri parameters_of proof_of (judged_with key) p known
    pub own : trace_width (declared_of s.air).preprocessed_trace < 2 ^ 32 → (known : List (List F)) → TakeDeclared log_rows known → TablesAreSoundBesideOwn ops.protocol fri parameters_of proof_of (judged_with key) p known
    pub few : FewBadDrawsOfTables ops.protocol fri parameters_of proof_of (judged_with key) p
    pub taken : BreakingNeedsBadChallenges ops.protocol (judged_with key) p

  unfoldable pub IsSoundByFriWithRows : ℕ → Option (ProofView Root E P F) → Type 0
  IsSoundByFriWithRows log_rows None = ⊥
  IsSoundByFriWithRows log_rows (Some p) = IsSoundByFri log_rows p

  -- So it is of the proof that was read, with the statement's own number of preprocessed rows.
  unfoldable pub IsSoundByFriOn : Option (ProofView Root E P F) → Type 0
  IsSoundByFriOn read = (log_rows : ℕ) × HasRows (greatest ops scheme first_state s) (declared_of s.air) log_rows × IsSoundByFriWithRows log_rows read

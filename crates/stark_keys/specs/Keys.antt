-- Keys of statements, made once, and verdicts with a key that is given.
use Rattle.std.specs.Prelude.{◌≡◌, ◌⊎◌, ℕ, List, Option, None, Some, Result, Ok, Err}
use Rattle.std.specs.declared.vec.Vec.{Vec}
use Rattle.stark_proof.specs.ProofView.{ProofView}
use Rattle.stark_proof_bytes.specs.declared.fault.BytesFault.{BytesFault}
use Rattle.stark_key_bytes.specs.KeyBytes.{key_reading}
use Rattle.stark_key_bytes.specs.declared.key.StatementKey.{StatementKey}
use Rattle.stark_protocol.specs.Acceptance.{Accepted}
use Rattle.stark_protocol.specs.FirstFault.{FirstFault}
use Rattle.stark_protocol.specs.Instance.{Instance}
use Rattle.stark_protocol.specs.declared.preprocessed.PreprocessedVerifierKey.{PreprocessedVerifierKey}
use Rattle.stark_statement.specs.StatementBytes.{statement_digest}
use Rattle.stark_statement.specs.StatementView.{StatementView}
use Rattle.stark_answers.specs.Verify.{IsKey, TellsProof, instance_of}
use Rattle.stark_answers.specs.declared.report.Report.{Report}
use Rattle.stark_answers.specs.declared.verdict.Verdict.{Verdict}
use Rattle.stark_answers.specs.declared.verdict.Verdict.TheVariants as verdict
use Rattle.stark_service.specs.Heights.{UnlessOfOtherHeight, height_fault}
use Rattle.stark_service.specs.Service.{ServiceOps}
use Rattle.stark_service.specs.StatementAir.{declared_of}
use Rattle.stark_service.specs.Statements.{HasNoRows, HasRows, ReadsDeclared}

-- ---- schemes

-- Its parameters tell a scheme from every other.
abbrev pub IsOnlyOne : {S Parameters : Type 0} → (S → Parameters) → S → Type 0
IsOnlyOne {S} parameters_of only = (other : S) → parameters_of other ≡ parameters_of only → other ≡ only

-- ---- making a key

-- what a call that makes a key answers: the bytes of its file, or what is said where there is none
abbrev pub made_of : {G : Type 0} → Result (Vec ℕ G) (Report Verdict) → Result (List ℕ) Verdict
made_of (Ok bytes) = Ok bytes.items
made_of (Err report) = Err report.answer

-- This is made, or an allocation failed.
abbrev pub OrNotMade : (Result (List ℕ) Verdict → Type 0) → Result (List ℕ) Verdict → Type 0
OrNotMade IsMade made = (made ≡ Err verdict.OutOfMemory) ⊎ IsMade made

module _ {S F E C K T P X Y : Type 0} (ops : ServiceOps S F E C K T P X Y) (scheme : S) (s : StatementView F) where
  -- the logarithm of the greatest height
  abbrev pub most : ℕ
  most = ops.protocol.opening.scheme.log_max_trace_height scheme

  -- A key is of the statement whose canonical bytes have its digest.
  abbrev pub IsOfStatement : StatementKey K → Type 0
  IsOfStatement given = given.digest ≡ statement_digest ops.number s

  -- A key is the AIR's own: none without preprocessed columns, else one that the scheme's set-up makes of the declared rows, 2 ^ log_rows of them.
  abbrev pub IsOwnKey : ℕ → Option (PreprocessedVerifierKey K) → Type 0
  IsOwnKey log_rows key = IsKey ops.protocol log_rows scheme (declared_of s.air).preprocessed_trace key

  -- The bytes spell a key of the statement, and it is the AIR's own.
  pub record IsKeyFile (bytes : List ℕ) : Type 0 where
    pub log_rows : ℕ
    pub rows : HasRows most (declared_of s.air) log_rows
    pub given : StatementKey K
    pub spelled : key_reading ops.codecs.commitment bytes ≡ Ok given
    pub of_statement : IsOfStatement given
    pub is_key : IsOwnKey log_rows given.key

  -- The bytes of such a file are made; or the preprocessed columns have no number of rows that a key can have, and the statement is bad input.
  unfoldable pub IsMadeOn : Result (List ℕ) Verdict → Type 0
  IsMadeOn (Ok bytes) = IsKeyFile bytes
  IsMadeOn (Err v) = HasNoRows most (declared_of s.air) × (v ≡ verdict.BadInput)

-- ---- verdicts with a key

module _ {S F E C K T P X Y : Type 0} (ops : ServiceOps S F E C K T P X Y) (scheme : S) (first_state : C) (s : StatementView F) where
  -- what the verifier judges with a key
  abbrev pub judged_with : Option (PreprocessedVerifierKey K) → Instance S F C K
  judged_with key = instance_of (declared_of s.air) scheme first_state s.ood_bits s.alpha_bits s.public_values key

  -- With this key, whatever it is, the verdict says whether the proof is accepted, or names its first fault; unless the statement fixes
  -- another height than the proof's. A file that spells no proof is bad input.
  unfoldable pub IsVerdictByKey : Option (PreprocessedVerifierKey K) → Option (ProofView K E P F) → Verdict → Type 0
  IsVerdictByKey key None v = v ≡ verdict.BadInput
  IsVerdictByKey key (Some p) v =
      UnlessOfOtherHeight (height_fault s.log_height p.degree_bits) (λ u. TellsProof (Accepted ops.protocol (judged_with key) p) (FirstFault ops.protocol (judged_with key) p) u) v

  -- Bytes that spell no key, or one of another statement, are bad input.
  unfoldable pub IsVerdictByRead : Result (StatementKey K) BytesFault → Option (ProofView K E P F) → Verdict → Type 0
  IsVerdictByRead (Err fault) read v = v ≡ verdict.BadInput
  IsVerdictByRead (Ok given) read v = (IsOfStatement ops scheme s given × IsVerdictByKey given.key read v)
      ⊎ ((IsOfStatement ops scheme s given → ⊥) × (v ≡ verdict.BadInput))

  -- The AIR reads what it declares, and this is the verdict with the key that the bytes spell, whatever they are.
  unfoldable pub IsVerdictWithKeyOn : List ℕ → Option (ProofView K E P F) → Verdict → Type 0
  IsVerdictWithKeyOn bytes read v = ReadsDeclared (declared_of s.air) × IsVerdictByRead (key_reading ops.codecs.commitment bytes) read v

-- When the proof that a file spells is accepted for a statement.
use Rattle.std.specs.Prelude.{◌≡◌, ℕ, List, Option, None, Some, Ok, true}
use Rattle.stark_proof.specs.ProofView.{ProofView}
use Rattle.stark_protocol.specs.Acceptance.{Accepted, IsPointOfH, challenges}
use Rattle.stark_protocol.specs.Instance.{Instance, ProtocolOps, log_height}
use Rattle.stark_protocol.specs.declared.preprocessed.PreprocessedVerifierKey.{PreprocessedVerifierKey}
use Rattle.stark_prover.specs.Completeness.{HasSizedDegrees}
use Rattle.stark_support.specs.declared.matrix.RowMajorMatrix.{RowMajorMatrix}
use Rattle.stark_trace_json.specs.Rows.{HasRows as AreRowsOf}
use Rattle.stark_trace_json.specs.declared.rows.TraceRows.{TraceRows}
use Rattle.stark_statement.specs.StatementView.{StatementView}
use Rattle.stark_answers.specs.Finding.{IsAcceptedWhereProved, WhereProof}
use Rattle.stark_answers.specs.TraceShape.{trace_of}
use Rattle.stark_answers.specs.Verify.{IsKey, instance_of}
use Rattle.stark_answers.specs.declared.finding.Finding.{Finding}
use Rattle.stark_answers.specs.declared.task.TraceTask.{TraceTask}
use Rattle.stark_answers.specs.declared.verdict.Verdict.{Verdict}
use Rattle.stark_answers.specs.declared.verdict.Verdict.TheVariants as verdict
use Rattle.stark_service.specs.Fitting.{IsTraceOf}
use Rattle.stark_service.specs.Heights.{has_fixed_height, height_fault}
use Rattle.stark_service.specs.Service.{CanBeAccepted, ServiceOps}
use Rattle.stark_service.specs.StatementAir.{declared_of}
use Rattle.stark_service.specs.Statements.{HasRows, IsVerdictOn, IsWithinLimits, greatest}
use Rattle.stark_service.specs.TraceChecks.{IsSatisfying}

-- The zeta that the replay of a proof draws isn't in H, and the constraints' degrees fit the quotient's domain.
pub record IsDrawnOutside {S F E C K T P X Y : Type 0} (ops : ProtocolOps S F E C K T P X Y) (i : Instance S F C K) (p : ProofView K E P F) : Type 0 where
  pub outside : (alpha zeta : E) → (challenges ops i p).answer ≡ Ok (alpha, zeta) → IsPointOfH ops.opening.fields (log_height ops.opening.is_zk p.degree_bits) zeta → ⊥
  pub sized : HasSizedDegrees ops i (log_height ops.opening.is_zk p.degree_bits)

-- This verdict is said, and no other.
abbrev pub IsTheVerdict : (Verdict → Type 0) → Verdict → Type 0
IsTheVerdict IsSaid v = IsSaid v × ((other : Verdict) → IsSaid other → other ≡ v)

-- With a scheme, and a challenger in the state that it has once it has observed the statement.
module _ {S F E C K T P X Y : Type 0} (ops : ServiceOps S F E C K T P X Y) (scheme : S) (first_state : C) (s : StatementView F) where
  -- the statement's instance, with a key
  abbrev pub judged_with : Option (PreprocessedVerifierKey K) → Instance S F C K
  judged_with key = instance_of (declared_of s.air) scheme first_state s.ood_bits s.alpha_bits s.public_values key

  -- Of what a file spells, with a key for 2 ^ log_rows rows: it is a proof of the height that the statement fixes, if it fixes one, and
  -- accepted, unless with this key zeta lies in H or the degrees don't fit.
  pub record IsAcceptedWithRows (log_rows : ℕ) (read : Option (ProofView K E P F)) : Type 0 where
    pub proof : ProofView K E P F
    pub spelt : read ≡ Some proof
    pub fixed : height_fault s.log_height proof.degree_bits ≡ None
    pub key : Option (PreprocessedVerifierKey K)
    pub is_key : IsKey ops.protocol log_rows scheme (declared_of s.air).preprocessed_trace key
    pub accepted : IsDrawnOutside ops.protocol (judged_with key) proof → Accepted ops.protocol (judged_with key) proof

  -- With a key of the statement's AIR: it is a proof, and the verdict on it is `accepted` and no other, unless with this key zeta lies in H
  -- or the degrees don't fit.
  pub record IsAcceptedOn (read : Option (ProofView K E P F)) : Type 0 where
    pub proof : ProofView K E P F
    pub spelt : read ≡ Some proof
    pub log_rows : ℕ
    pub rows : HasRows (greatest ops scheme first_state s) (declared_of s.air) log_rows
    pub key : Option (PreprocessedVerifierKey K)
    pub is_key : IsKey ops.protocol log_rows scheme (declared_of s.air).preprocessed_trace key
    pub accepted : IsDrawnOutside ops.protocol (judged_with key) proof → IsTheVerdict (IsVerdictOn ops scheme first_state s read) verdict.Accepted

  -- The file is accepted so.
  abbrev pub AcceptsFile : ℕ → List ℕ → Type 0
  AcceptsFile log_rows file = IsAcceptedWithRows log_rows (ops.reading file)

  -- The rows satisfy the AIR, and are as many as the statement fixes.
  pub record AreSatisfying (rows : List (List F)) : Type 0 where
    pub satisfied : IsSatisfying ops.protocol.opening.fields ops.number (declared_of s.air) (trace_of (declared_of s.air).layout.main rows) s.public_values
    pub fixed : has_fixed_height s.log_height (Some rows) ≡ true

  -- By a scheme whose proofs can be accepted as they are written: a proof that is found of a matrix is accepted, where this is the trace of
  -- such rows;
  abbrev pub AcceptsOfTrace : ℕ → ℕ → RowMajorMatrix F → Finding → Type 0
  AcceptsOfTrace most log_rows trace f = CanBeAccepted ops scheme → (rows : List (List F)) → IsTraceOf most log_rows s rows trace → AreSatisfying rows → WhereProof (λ form file. AcceptsFile log_rows file) f

  -- a proof that is found of rows after a check is accepted, where they are as many as the statement fixes;
  abbrev pub AcceptsOfRows : TraceTask → ℕ → TraceRows F → Finding → Type 0
  AcceptsOfRows asked log_rows table f = CanBeAccepted ops scheme → (rows : List (List F)) → AreRowsOf table rows → has_fixed_height s.log_height (Some rows) ≡ true → IsAcceptedWhereProved asked (AcceptsFile log_rows) f

  -- a proof that is found of a file after a check is accepted, with a key for 2 ^ log_rows rows,
  abbrev pub AcceptsAt : TraceTask → ℕ → Finding → Type 0
  AcceptsAt asked log_rows f = CanBeAccepted ops scheme → IsAcceptedWhereProved asked (AcceptsFile log_rows) f

  -- and with the statement's key.
  abbrev pub AcceptsOn : TraceTask → Finding → Type 0
  AcceptsOn asked f = CanBeAccepted ops scheme → IsAcceptedWhereProved asked (λ file. IsAcceptedOn (ops.reading file)) f

-- A statement's AIR passes no limit, and this holds of the statement.
abbrev pub HoldsWithinLimits : {F : Type 0} → (StatementView F → Type 0) → StatementView F → Type 0
HoldsWithinLimits Holds s = IsWithinLimits s × Holds s

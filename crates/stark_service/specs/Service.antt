-- What is computed over a configuration by a service that reads statements and proofs.
use Rattle.std.specs.Prelude.{◌≡◌, ℕ, ◌<◌, ◌≤◌, Bool, false, List, Option}
use Rattle.serde_json.specs.Data.{Data}
use Rattle.serde_json.specs.Read.{max_depth}
use Rattle.stark_support.specs.Ring.{RingOps}
use Rattle.stark_support.specs.Scheme.{SchemeOps}
use Rattle.stark_air.specs.Declaration.{Trace}
use Rattle.stark_air.specs.Layout.{Layout}
use Rattle.stark_proof.specs.ProofView.{ProofView}
use Rattle.stark_proof_bytes.specs.ProofBytes.{ProofCodecs}
use Rattle.stark_protocol.specs.Instance.{ProtocolOps}
use Rattle.stark_protocol.specs.Preprocessing.{HasHeight, IsSetUp}
use Rattle.stark_protocol.specs.declared.preprocessed.PreprocessedProverData.{PreprocessedProverData}
use Rattle.stark_protocol.specs.declared.preprocessed.PreprocessedVerifierKey.{PreprocessedVerifierKey}
use Rattle.stark_statement.specs.StatementView.{StatementView}
use Rattle.stark_answers.specs.Prove.{HasNoFloat, file_of}
use Rattle.stark_answers.specs.ReadBack.{NestsWithin}
use Rattle.stark_answers.specs.Verify.{SetsUpAll}
use Rattle.stark_answers.specs.declared.task.ProofForm.{ProofForm}

-- All that a configuration's types compute; an element's coordinates and its number; what a JSON value is read as; the proof that the
-- bytes of a file spell; how a proof is written as JSON, and its parts as bytes.
pub record ServiceOps (S F E C K T P X Y : Type 0) : Type 1 where
  pub protocol : ProtocolOps S F E C K T P X Y
  pub coordinates : E → List F
  pub number : F → ℕ
  pub element : Data → Option F
  pub reading : List ℕ → Option (ProofView K E P F)
  pub writing : ProofView K E P F → Data
  pub codecs : ProofCodecs K E P F

-- a proof's file in a form
abbrev pub proof_file : {S F E C K T P X Y : Type 0} → ServiceOps S F E C K T P X Y → ProofForm → ProofView K E P F → List ℕ
proof_file ops form p = file_of ops.writing ops.codecs form p

-- A scheme masks nothing and sets up all columns, and the work that is asked for is the statement's.
pub record IsReady {S F E C K T P X Y : Type 0} (ops : ServiceOps S F E C K T P X Y) (scheme : S) (ood_bits alpha_bits : ℕ) (s : StatementView F) : Type 0 where
  pub plain : ops.protocol.opening.is_zk ≡ false
  pub sets_up : SetsUpAll ops.protocol.opening.scheme scheme
  pub ood_work : ood_bits ≡ s.ood_bits
  pub alpha_work : alpha_bits ≡ s.alpha_bits

-- Traces of as many rows as a scheme takes are set up in one way: a trace has one key.
abbrev pub SetsUpOnce : {S F E C K T P X Y : Type 0} → SchemeOps S F E C K T P X Y → S → RingOps F → (ℕ → F) → Bool → Type 0
SetsUpOnce {F = F} {K = K} {T = T} scheme s field root is_zk = (log_rows : ℕ) → log_rows ≤ scheme.log_max_trace_height s → (trace : Trace F) (prover other : PreprocessedProverData K T) (key another : PreprocessedVerifierKey K)
    → IsSetUp scheme s field root is_zk log_rows trace prover key → IsSetUp scheme s field root is_zk log_rows trace other another → key ≡ another

-- It commits to traces of any height and refuses no true opening, and a proof's JSON has no float, so that its line is exact.
pub record CanProve {S F E C K T P X Y : Type 0} (ops : ServiceOps S F E C K T P X Y) (scheme : S) : Type 0 where
  pub any_height : ops.protocol.opening.scheme.log_min_trace_height scheme ≡ 0
  pub complete : ops.protocol.opening.scheme.IsComplete scheme
  pub no_float : HasNoFloat ops.writing

-- Its proofs can be accepted as they are written: what is known has one key, and a proof's JSON nests no deeper than a reader goes.
pub record CanBeAccepted {S F E C K T P X Y : Type 0} (ops : ServiceOps S F E C K T P X Y) (scheme : S) : Type 0 where
  pub one_key : SetsUpOnce ops.protocol.opening.scheme scheme ops.protocol.opening.fields.base ops.protocol.opening.fields.root ops.protocol.opening.is_zk
  pub shallow : NestsWithin max_depth ops.writing

-- A trace of the statement can be proved: it can be checked, and the scheme can prove.
pub record CanProveFor {S F E C K T P X Y : Type 0} (ops : ServiceOps S F E C K T P X Y) (scheme : S) (ood_bits alpha_bits : ℕ) (s : StatementView F) : Type 0 where
  pub ready : IsReady ops scheme ood_bits alpha_bits s
  pub able : CanProve ops scheme

-- An AIR of this layout has main columns, and as its preprocessed ones these, of 2 ^ log_rows rows, at most 2 ^ greatest.
pub record HasColumnsAt {F : Type 0} (layout : Layout) (preprocessed : Option (Trace F)) (greatest log_rows : ℕ) : Type 0 where
  pub height : HasHeight log_rows preprocessed
  pub within : log_rows ≤ greatest
  pub columns : 0 < layout.main

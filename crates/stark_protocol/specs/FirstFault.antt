-- The first fault of a proof that isn't accepted, in the order of the tests, and the error that names it.
use Rattle.std.specs.Prelude.{◌≡◌, ◌⊎◌, Option, None, Some, Ok, Err}
use Rattle.stark_support.specs.declared.periodic.PeriodicColumnShapeError.{PeriodicColumnShapeError}
use Rattle.stark_transcript.specs.Errors.{transcript_error}
use Rattle.stark_transcript.specs.declared.shape.StarkTranscriptFailure.{StarkTranscriptFailure}
use Rattle.stark_transcript.specs.declared.error.VerificationError.{VerificationError}
use Rattle.stark_transcript.specs.declared.error.VerificationError.TheVariants.{OutOfMemory, PeriodicColumn, OodEvaluationMismatch, OodPointInDomain}
use Rattle.stark_protocol.specs.Instance.{Instance, ProtocolOps, log_height}
use Rattle.stark_protocol.specs.OpenedClaims.{OpeningsFault}
use Rattle.stark_proof.specs.ProofView.{ProofView}
use Rattle.stark_protocol.specs.Acceptance.{IsBalanced, IsPointOfH, RunHolds, challenges, columns_fault, shape_fault}

-- Memory was wanting, or else the error is such a fault.
abbrev pub IsOutOfMemoryOr : {X : Type 0} → (VerificationError X → Type 0) → VerificationError X → Type 0
IsOutOfMemoryOr Fault error = (error ≡ OutOfMemory) ⊎ Fault error

-- The first fault of the point and of the periodic columns: the point lies in the domain, or else a column doesn't fit.
pub data PointFault {X : Type 0} (Inside : Type 0) (fault : Option PeriodicColumnShapeError) : VerificationError X → Type 0 where
  in_domain : Inside → PointFault Inside fault OodPointInDomain
  in_columns : {error : PeriodicColumnShapeError} → (Inside → ⊥) → fault ≡ Some error → PointFault Inside fault (PeriodicColumn error)

-- The equation fails.
pub data EquationFault {X : Type 0} (Holds : Type 0) : VerificationError X → Type 0 where
  in_balance : (Holds → ⊥) → EquationFault Holds (OodEvaluationMismatch None)

module _ {S F E C K T P X Y : Type 0} (ops : ProtocolOps S F E C K T P X Y) (i : Instance S F C K) (p : ProofView K E P F) where
  -- The first fault of the run: of the replay; of zeta and the periodic columns; of the openings.
  pub data RunFault : VerificationError X → Type 0 where
    in_replay : {failure : StarkTranscriptFailure} → (challenges ops i p).answer ≡ Err failure → RunFault (transcript_error failure)
    in_point : {alpha zeta : E} {error : VerificationError X} → (challenges ops i p).answer ≡ Ok (alpha, zeta)
        → PointFault (IsPointOfH ops.opening.fields (log_height ops.opening.is_zk p.degree_bits) zeta) (columns_fault ops i p) error → RunFault error
    in_openings : {alpha zeta : E} {error : VerificationError X} → (challenges ops i p).answer ≡ Ok (alpha, zeta)
        → (IsPointOfH ops.opening.fields (log_height ops.opening.is_zk p.degree_bits) zeta → ⊥) → columns_fault ops i p ≡ None
        → OpeningsFault ops.opening i.scheme i.key p zeta (challenges ops i p).state error → RunFault error

  -- The first fault: of the shape; of the run, where the shape has none; of the equation, where the run has none.
  pub data FirstFault : VerificationError X → Type 0 where
    in_shape : {error : VerificationError X} → shape_fault ops i p ≡ Some error → FirstFault error
    in_run : {error : VerificationError X} → shape_fault ops i p ≡ None → RunFault error → FirstFault error
    in_equation : {alpha zeta : E} {error : VerificationError X} → shape_fault ops i p ≡ None → RunHolds ops i p alpha zeta → EquationFault (IsBalanced ops i p alpha zeta) error → FirstFault error

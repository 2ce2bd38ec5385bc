-- The scheme in the clear: a commitment lists the committed columns.
use Rattle.std.specs.Prelude.{◌≡◌, ℕ, ⊤, List, Option, None, Some, Result, Err}
use Rattle.std.specs.List.{AllByRecursion}
use Rattle.stark_support.specs.Ring.{RingOps}
use Rattle.stark_support.specs.Claims.{RoundClaim}
use Rattle.stark_support.specs.Scheme.{CommittingCalls, SchemeOps}
use Rattle.stark_support.specs.declared.scheme.SchemeFault.{SchemeFault}
use Rattle.stark_support.specs.declared.scheme.SchemeFault.TheVariants.{Refused}
use Rattle.stark_columns.specs.Columns.{IsFull, columns_of}
use Rattle.stark_clear.specs.ClearClaims.{ClaimsAreTrue, ClaimsFault}
use Rattle.stark_clear.specs.Stops.{StopsAt}
use Rattle.stark_clear.specs.declared.clear.call.ClearCall.{ClearCall}
use Rattle.stark_clear.specs.declared.clear.call.ClearCall.TheVariants.{Commit, CommitPreprocessing, CommitQuotient, Randomization, Open, Verify}
use Rattle.stark_clear.specs.declared.clear.check.ClearError.{ClearError}
use Rattle.stark_clear.specs.declared.clear.check.ClearError.TheVariants.{Stopped, Shape, Value}
use Rattle.stark_clear.specs.declared.clear.pcs.ClearPcs.{ClearPcs}
use Rattle.stark_clear.specs.declared.clear.pcs.ClearProof.{ClearProof}
use Rattle.stark_clear.specs.declared.clear.pcs.ClearProverError.{ClearProverError}
use Rattle.stark_clear.specs.declared.clear.pcs.ClearProverError.TheVariants.{Stopped as ProverStopped}

-- The scheme that stops nowhere.
abbrev pub clear_pcs : {F : Type 0} → ClearPcs F
clear_pcs = record { field = record {}; stops_at = None }

-- The scheme that stops at this call.
abbrev pub stopping_pcs : {F : Type 0} → ClearCall → ClearPcs F
stopping_pcs call = record { field = record {}; stops_at = Some call }

-- Stopped where verifying stops, and there no other error; else the first fault of the claims.
abbrev pub RefusesClaims : {F E : Type 0} → RingOps E → (F → E) → Option ClearCall → List (RoundClaim F E (List (List (List F)))) → ClearError → Type 0
RefusesClaims ring embed stops claims Stopped = StopsAt stops Verify
RefusesClaims ring embed stops claims (Shape round) = (StopsAt stops Verify → ⊥) × ClaimsFault ring embed claims (Shape round)
RefusesClaims ring embed stops claims (Value round) = (StopsAt stops Verify → ⊥) × ClaimsFault ring embed claims (Value round)

-- The commitment and the prover's data are the matrices' columns. Of the prover's calls one that the scheme stops at may answer an error, of which there is one
-- alone. One that stops at verifying accepts nothing, and is not whole.
abbrev pub clear_scheme : {S F E C : Type 0} → RingOps E → (F → E) → ℕ → (S → Option ClearCall) → CommittingCalls S F (List (List (List F))) (List (List (List F)))
    → SchemeOps S F E C (List (List (List F))) (List (List (List F))) ClearProof ClearError ClearProverError
clear_scheme ring embed adicity stops calls = record {
  log_min_trace_height = λ s. 0;
  log_max_trace_height = λ s. adicity;
  IsComplete = λ s. StopsAt (stops s) Verify → ⊥;
  Stands = λ s commitment prover_data matrices. (commitment ≡ columns_of matrices) × (prover_data ≡ columns_of matrices) × AllByRecursion IsFull matrices;
  calls = calls;
  Accepts = λ s claims proof state index. ClaimsAreTrue ring embed claims × (StopsAt (stops s) Verify → ⊥);
  Refuses = λ s claims proof state index error. RefusesClaims ring embed (stops s) claims error;
  RefusesCommit = λ s domain values width error. StopsAt (stops s) Commit;
  RefusesPreprocessing = λ s domain values width error. StopsAt (stops s) CommitPreprocessing;
  RefusesQuotient = λ s domain values width chunks error. StopsAt (stops s) CommitQuotient;
  RefusesRandomization = λ s domain error. StopsAt (stops s) Randomization;
  RefusesOpening = λ s rounds state index error. StopsAt (stops s) Open;
}

-- The claims are true, and verifying doesn't stop.
abbrev pub AcceptsTrue : {F E : Type 0} → RingOps E → (F → E) → Option ClearCall → List (RoundClaim F E (List (List (List F)))) → Type 0
AcceptsTrue ring embed stops claims = ClaimsAreTrue ring embed claims × (StopsAt stops Verify → ⊥)

-- ---- of what a call answers

-- The prover's call at which the scheme stops answers so, and so does verifying.
abbrev pub StopsProving : {T : Type 0} → Option ClearCall → ClearCall → Result T (SchemeFault ClearProverError) → Type 0
StopsProving stops call result = StopsAt stops call → result ≡ Err (Refused ProverStopped)

abbrev pub StopsVerifying : Option ClearCall → Result ⊤ (SchemeFault ClearError) → Type 0
StopsVerifying stops result = StopsAt stops Verify → result ≡ Err (Refused Stopped)

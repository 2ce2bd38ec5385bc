-- A scheme's own refusal, as a prover's error.
use Rattle.std.specs.Prelude.{◌≡◌, ◌⊎◌, List, ℕ}
use Rattle.stark_support.specs.declared.scheme.SchemeFault.TheVariants.{Refused}
use Rattle.stark_transcript.specs.Errors.{IsFaultIn}
use Rattle.stark_transcript.specs.declared.error.ProvingError.{ProvingError}

-- In the phase of this name the scheme refuses, for a reason that it may have.
pub record IsSchemeFault {Y : Type 0} (name : List ℕ) (MayRefuse : Y → Type 0) (error : ProvingError Y) : Type 0 where
  pub reason : Y
  pub named : IsFaultIn name (Refused reason) error
  pub refuses : MayRefuse reason

-- Memory was wanting, or else the error has this cause.
abbrev pub IsOutOfMemoryOr : {Y : Type 0} → (ProvingError Y → Type 0) → ProvingError Y → Type 0
IsOutOfMemoryOr IsCause error = (error ≡ ProvingError.OutOfMemory) ⊎ IsCause error

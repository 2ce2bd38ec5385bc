-- The errors of a verifier with lookups.
use Rattle.std.specs.Prelude.{◌≡◌, ◌⊎◌, IfErr, Result}
use Rattle.stark_transcript.specs.declared.error.VerificationError.{VerificationError}
use Rattle.stark_transcript.specs.declared.error.VerificationError.TheVariants as inner
use Rattle.stark_lookup.specs.declared.error.LookupError.{LookupError}
use Rattle.stark_lookup.specs.declared.error.LookupError.TheVariants.{Extended, OutOfMemory}

-- An error of the proof of the extended AIR; want of memory stays what it is.
abbrev pub of_verification : {X : Type 0} → VerificationError X → LookupError X
of_verification inner.OutOfMemory = OutOfMemory
of_verification error = Extended error

-- Where the answer is an error, memory was wanting, or else the error is such a fault.
abbrev pub RefusedFor : {T X : Type 0} → Result T (LookupError X) → (LookupError X → Type 0) → Type 0
RefusedFor answer Fault = IfErr answer (λ error. (error ≡ OutOfMemory) ⊎ Fault error)

-- Errors, want of memory aside.
use Rattle.std.specs.Prelude.{Result, IfErr}
use Rattle.stark_transcript.specs.declared.error.VerificationError.{VerificationError}
use Rattle.stark_protocol.specs.FirstFault.{IsOutOfMemoryOr}

-- Where the answer is an error, memory was wanting, or else the error is such a fault.
abbrev pub IfErrMemoryAside : {T X : Type 0} → Result T (VerificationError X) → (VerificationError X → Type 0) → Type 0
IfErrMemoryAside answer Fault = IfErr answer (IsOutOfMemoryOr Fault)

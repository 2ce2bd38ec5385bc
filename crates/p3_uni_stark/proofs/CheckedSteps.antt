-- What a prover that checks first tells of a check's error.
use Rattle.std.proofs.Common.{◌≡◌, subst, sym}
use Rattle.stark_completeness.specs.RowCheck.{IsRefusedOr}
use Rattle.stark_completeness.specs.declared.violation.ConstraintViolation.{ConstraintViolation}
use Rattle.stark_completeness.specs.declared.violation.ConstraintCheckError.{ConstraintCheckError}
use Rattle.stark_completeness.specs.declared.violation.ConstraintCheckError.TheVariants.{OutOfMemory, Violation}
use Rattle.stark_transcript.specs.declared.error.ProvingError.{ProvingError}
use Rattle.p3_uni_stark.specs.Checked.{IsViolationOr, checked_error}
use Rattle.p3_uni_stark.specs.declared.checked.CheckedProvingError.{CheckedProvingError}

-- A violation is told as it was found, and want of memory as the prover's.
pub stated_as : {F Y : Type 0} (A : ConstraintViolation F → Type 0) (B : ProvingError Y → Type 0) (error : ConstraintCheckError F) (answer : CheckedProvingError F Y) → answer ≡ checked_error error → IsRefusedOr A error → B ProvingError.OutOfMemory
    → IsViolationOr A B answer
stated_as A B (Violation violation) answer is said memory = subst (IsViolationOr A B) (sym is) said
stated_as A B OutOfMemory answer is said memory = subst (IsViolationOr A B) (sym is) memory

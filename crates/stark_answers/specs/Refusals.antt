-- Why a proof is refused, or none is made.
use Rattle.std.specs.Prelude.{Result, Ok, Err}
use Rattle.stark_transcript.specs.declared.error.VerificationError.{VerificationError}
use Rattle.stark_transcript.specs.declared.error.VerificationError.TheVariants as error
use Rattle.stark_transcript.specs.declared.error.ProvingError.{ProvingError}
use Rattle.stark_transcript.specs.declared.error.ProvingError.TheVariants as proving
use Rattle.stark_answers.specs.declared.verdict.Refusal.{Refusal}
use Rattle.stark_answers.specs.declared.verdict.Verdict.{Verdict}
use Rattle.stark_answers.specs.declared.verdict.Verdict.TheVariants.{Accepted, Refused}
use Rattle.stark_answers.specs.declared.verdict.Refusal.TheVariants.{OodEvaluationMismatch, OodPointInDomain, PeriodicColumn, QuotientDomainTooLarge, Pcs, GrindExhausted, OutOfMemory, InvalidProofShape, InvalidOpeningArgument, RandomizationError, NextPointUnavailable, InvalidAlphaPowWitness, InvalidOodPowWitness}

-- the error without what is in it, but for a shape's
abbrev pub refusal_of : {X : Type 0} → VerificationError X → Refusal
refusal_of (error.InvalidProofShape fault) = InvalidProofShape fault
refusal_of (error.PeriodicColumn fault) = PeriodicColumn
refusal_of (error.InvalidOpeningArgument why) = InvalidOpeningArgument
refusal_of (error.OodEvaluationMismatch index) = OodEvaluationMismatch
refusal_of error.RandomizationError = RandomizationError
refusal_of error.NextPointUnavailable = NextPointUnavailable
refusal_of error.OodPointInDomain = OodPointInDomain
refusal_of error.InvalidAlphaPowWitness = InvalidAlphaPowWitness
refusal_of error.InvalidOodPowWitness = InvalidOodPowWitness
refusal_of error.OutOfMemory = OutOfMemory

-- what is said of an answer
abbrev pub verdict_of_answer : {X : Type 0} → Result (Unit {0}) (VerificationError X) → Verdict
verdict_of_answer (Ok answer) = Accepted
verdict_of_answer (Err error) = Refused (refusal_of error)

-- a prover's error, without what is in it
abbrev pub prover_refusal_of : {X : Type 0} → ProvingError X → Refusal
prover_refusal_of (proving.Pcs phase source) = Pcs
prover_refusal_of (proving.GrindExhausted bits) = GrindExhausted
prover_refusal_of (proving.QuotientDomainTooLarge maximum got) = QuotientDomainTooLarge
prover_refusal_of (proving.PeriodicColumn fault) = PeriodicColumn
prover_refusal_of proving.OutOfMemory = OutOfMemory

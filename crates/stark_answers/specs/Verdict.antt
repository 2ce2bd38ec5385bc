-- What the program says of an input, and the line that says so.
use Rattle.std.specs.Prelude.{ℕ, List, ◌++◌, codes}
use Rattle.stark_transcript.specs.Errors.{shape_error_name}
use Rattle.stark_answers.specs.declared.verdict.RunEnd.{RunEnd}
use Rattle.stark_answers.specs.declared.verdict.RunEnd.TheVariants as ends
use Rattle.stark_answers.specs.declared.verdict.Refusal.{Refusal}
use Rattle.stark_answers.specs.declared.verdict.Refusal.TheVariants.{OodEvaluationMismatch, OodPointInDomain, PeriodicColumn, QuotientDomainTooLarge, Pcs, GrindExhausted, AirTooLarge, OutOfMemory, InvalidProofShape, InvalidOpeningArgument, RandomizationError, NextPointUnavailable, InvalidAlphaPowWitness, InvalidOodPowWitness}
use Rattle.stark_answers.specs.declared.verdict.Verdict.{Verdict}
use Rattle.stark_answers.specs.declared.verdict.Verdict.TheVariants as verdict

-- the name that is written, of a shape's error its own
abbrev pub name_of : Refusal → List ℕ
name_of OodEvaluationMismatch = codes "OodEvaluationMismatch"
name_of OodPointInDomain = codes "OodPointInDomain"
name_of PeriodicColumn = codes "PeriodicColumn"
name_of QuotientDomainTooLarge = codes "QuotientDomainTooLarge"
name_of Pcs = codes "Pcs"
name_of GrindExhausted = codes "GrindExhausted"
name_of AirTooLarge = codes "AirTooLarge"
name_of OutOfMemory = codes "OutOfMemory"
name_of (InvalidProofShape fault) = shape_error_name fault
name_of InvalidOpeningArgument = codes "InvalidOpeningArgument"
name_of RandomizationError = codes "RandomizationError"
name_of NextPointUnavailable = codes "NextPointUnavailable"
name_of InvalidAlphaPowWitness = codes "InvalidAlphaPowWitness"
name_of InvalidOodPowWitness = codes "InvalidOodPowWitness"

-- what is written, with the newline
abbrev pub line_of : Verdict → List ℕ
line_of verdict.Accepted = codes "accepted\n"
line_of (verdict.Refused why) = codes "refused " ++ name_of why ++ codes "\n"
line_of verdict.BadInput = codes "bad input\n"
line_of verdict.OutOfMemory = codes "out of memory\n"

-- how a run ends that has written it
abbrev pub end_of : Verdict → RunEnd
end_of verdict.Accepted = ends.Accepted
end_of (verdict.Refused why) = ends.Refused
end_of verdict.BadInput = ends.NotJudged
end_of verdict.OutOfMemory = ends.NotJudged

-- the exit status
abbrev pub status_of : RunEnd → ℕ
status_of ends.Accepted = 0
status_of ends.Refused = 1
status_of ends.NotJudged = 2
status_of ends.BelowFloor = 4
status_of ends.InputFailed = 2
status_of ends.OutputFailed = 2

-- A verdict where want of memory is no refusal: nothing was judged.
abbrev pub unjudged : Verdict → Verdict
unjudged (verdict.Refused OutOfMemory) = verdict.OutOfMemory
unjudged v = v

use Rattle.std.proofs.Common.{rules}
use Rattle.stark_transcript.proofs.error.ProvingError.in_phase.Goals as goal

pub returns-in-Refused : goal.returns-in-Refused
returns-in-Refused g c = search rules

pub returns-in-OutOfMemory : goal.returns-in-OutOfMemory
returns-in-OutOfMemory g c = search rules

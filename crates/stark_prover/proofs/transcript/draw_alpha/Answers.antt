use Rattle.std.proofs.Common.{rules}
use Rattle.stark_prover.proofs.transcript.draw_alpha.Goals as goal

pub returns-in-Some : goal.returns-in-Some
returns-in-Some c = search rules

pub returns-in-None : goal.returns-in-None
returns-in-None c = search rules

pub returns-in_err-alpha : goal.returns-in_err-alpha
returns-in_err-alpha c = search rules

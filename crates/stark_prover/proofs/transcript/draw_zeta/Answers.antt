use Rattle.std.proofs.Common.{rules}
use Rattle.stark_prover.proofs.transcript.draw_zeta.Goals as goal

pub returns-in-Some : goal.returns-in-Some
returns-in-Some c = search rules

pub returns-in-None : goal.returns-in-None
returns-in-None c = search rules

pub returns-in_err-zeta : goal.returns-in_err-zeta
returns-in_err-zeta c = search rules

use Rattle.std.proofs.Common.{rules}
use Rattle.stark_prover.proofs.rounds.points_of.Goals as goal

pub returns : goal.returns
returns g c = search rules

pub returns-in_err-push : goal.returns-in_err-push
returns-in_err-push g c = search rules

use Rattle.std.proofs.Common.{rules}
use Rattle.stark_bench.proofs.challenger.script.ScriptChallengerResidueFieldChallengerResidue.duplicate.Goals as goal

pub returns : goal.returns
returns g c = search rules

pub returns-in_err-list : goal.returns-in_err-list
returns-in_err-list g c = search rules

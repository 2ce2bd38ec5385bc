use Rattle.std.proofs.Common.{rules}
use Rattle.stark_bench.proofs.challenger.script.ScriptChallengerResidueCanSampleExt4Residue.sample.Goals as goal

pub returns : goal.returns
returns c = search rules

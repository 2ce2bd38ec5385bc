use Rattle.std.proofs.Common.{◌≡◌}
use Rattle.stark_bench.specs.Challenges.{script_passes}
use Rattle.stark_bench.specs.ChallengeFacts.{NonePassedBelow}
use Rattle.stark_bench.proofs.challenger.script.ScriptChallengerResidueGrindingChallenger.grind.Given as goal

-- The state is as at first, and no smaller number passed.
abbrev pub invariant-loop-number : goal.invariant-loop-number
invariant-loop-number g l = (l.self ≡ l.fn.self) × NonePassedBelow (script_passes {M = g.row.M.Denot} {K = g.row.Kind.Denot} {G = g.M.Modulus}) l.fn.self l.fn.bits l.number

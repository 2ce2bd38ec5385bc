use Rattle.std.proofs.Common.{◌≡◌, ◌*◌}
use Rattle.stark_bench.specs.Challenges.{sha_passes}
use Rattle.stark_bench.specs.ChallengeFacts.{NonePassedBelow}
use Rattle.stark_bench.proofs.challenger.sha256.Sha256ChallengerResidueGrindingChallenger.grind.Given as goal

-- The state is as at first, and no smaller number passed.
abbrev pub invariant-loop-group : goal.invariant-loop-group
invariant-loop-group g l = (l.self ≡ l.fn.self) × NonePassedBelow (sha_passes {M = g.row.M.Denot} {K = g.row.Kind.Denot} {G = g.M.Modulus}) l.fn.self l.fn.bits (8 * l.group)

abbrev pub invariant-loop-number : goal.invariant-loop-number
invariant-loop-number g l = (l.self ≡ l.fn.self) × NonePassedBelow (sha_passes {M = g.row.M.Denot} {K = g.row.Kind.Denot} {G = g.M.Modulus}) l.fn.self l.fn.bits l.number

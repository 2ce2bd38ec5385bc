use Rattle.std.proofs.Common.{◌*◌, ◌<◌, ℕ, List}
use Rattle.sha2.specs.Sha256.{IsRoundsAt}
use Rattle.stark_sha256.specs.Lanes.{AreWords, lane}
use Rattle.stark_sha256.proofs.compress.compress.Given as goal

abbrev pub invariant-loop-turn : goal.invariant-loop-turn
invariant-loop-turn g l = (j : ℕ) → j < g.row.N → (b : List ℕ) → AreWords b (lane j l.fn.words)
    → IsRoundsAt b (lane j l.fn.state) (lane j l.window) (lane j l.v) (16 * l.turn)

use Rattle.std.proofs.Common.{◌≡◌, ◌<◌, ℕ}
use Rattle.sha2.specs.Sha256.{hash_after, initial_hash_256}
use Rattle.stark_sha256.specs.Lanes.{lane}
use Rattle.stark_sha256.specs.Texts.{padded_in}
use Rattle.stark_sha256.proofs.digest.final_state.Given as goal

abbrev pub invariant-loop-block : goal.invariant-loop-block
invariant-loop-block g l = (j : ℕ) → j < g.row.N
    → lane j l.state ≡ hash_after initial_hash_256 (padded_in l.texts j) l.block

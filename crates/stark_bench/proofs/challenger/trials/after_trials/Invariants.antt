use Rattle.std.proofs.Common.{◌≡◌, ◌+◌, ◌<◌, ◌∷◌, ℕ, [], length, slice_index_or}
use Rattle.stark_support.specs.Seed.{number}
use Rattle.stark_bench.proofs.challenger.trials.after_trials.Given as goal

abbrev pub invariant-loop-j : goal.invariant-loop-j
invariant-loop-j l = (length l.texts ≡ 8)
    × ((k : ℕ) → k < l.j → slice_index_or l.texts k [] ≡ 0 ∷ number (l.first + k))

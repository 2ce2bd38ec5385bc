use Rattle.std.proofs.Common.{◌≡◌, ◌++◌, map, drop}
use Rattle.stark_support.specs.Pairs.{pack_at}
use Rattle.stark_prover_folder.proofs.vectorized_folder.packs_at.Given as goal

-- What was taken, with the packs of the rest, is all.
abbrev pub invariant-loop-pair : goal.invariant-loop-pair
invariant-loop-pair g l = l.packs.items ++ map (pack_at l.fn.place) (drop l.pair-index l.pairs) ≡ map (pack_at l.fn.place) l.fn.pairs

use Rattle.std.proofs.Common.{◌≡◌, ◌+◌, ◌<◌, ℕ, [], length, map, slice_index_or}
use Rattle.stark_merkle.specs.Bytes.{element_bytes}
use Rattle.stark_merkle.specs.Tree.{items_of}
use Rattle.stark_fri_prover.specs.Commit.{text_at}
use Rattle.stark_fri_prover.proofs.commit.write_eight_rows.Given as goal

abbrev pub invariant-loop-j : goal.invariant-loop-j
invariant-loop-j g l = (length l.texts ≡ 8)
    × ((k : ℕ) → k < l.j → slice_index_or (map items_of l.texts) k [] ≡ text_at (element_bytes g.F.PrimeField64.BYTES g.F.PrimeField64.number_of) l.extended (l.place + k))

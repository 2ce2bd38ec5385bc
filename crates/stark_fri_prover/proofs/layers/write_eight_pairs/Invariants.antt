use Rattle.std.proofs.Common.{◌≡◌, ◌+◌, ◌<◌, ℕ, [], length, map, slice_index_or}
use Rattle.stark_merkle.specs.Bytes.{element_bytes}
use Rattle.stark_merkle.specs.Tree.{items_of}
use Rattle.stark_fri_prover.specs.Layers.{pair_of}
use Rattle.stark_fri_prover.proofs.layers.write_eight_pairs.Given as goal

abbrev pub invariant-loop-j : goal.invariant-loop-j
invariant-loop-j g l = (length l.texts ≡ 8)
    × ((k : ℕ) → k < l.j → slice_index_or (map items_of l.texts) k []
    ≡ pair_of (element_bytes g.F.PrimeField64.BYTES g.F.PrimeField64.number_of) g.EF.ExtensionField.coordinates g.EF.Field.ring.zero l.values l.half (l.place + k))

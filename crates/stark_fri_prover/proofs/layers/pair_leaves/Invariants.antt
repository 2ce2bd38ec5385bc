use Rattle.std.proofs.Common.{◌≡◌, ◌+◌, ◌*◌}
use Rattle.stark_merkle.specs.Bytes.{element_bytes}
use Rattle.stark_fri_prover.specs.Layers.{pair_leaves_to}
use Rattle.stark_fri_prover.proofs.layers.pair_leaves.Given as goal

abbrev pub invariant-loop-group : goal.invariant-loop-group
invariant-loop-group g l = l.leaves.items
    ≡ pair_leaves_to (element_bytes g.F.PrimeField64.BYTES g.F.PrimeField64.number_of) g.EF.ExtensionField.coordinates g.EF.Field.ring.zero g.H.TreeHash.digests l.values (8 * l.group)

abbrev pub invariant-loop-j : goal.invariant-loop-j
invariant-loop-j g l = l.leaves.items
    ≡ pair_leaves_to (element_bytes g.F.PrimeField64.BYTES g.F.PrimeField64.number_of) g.EF.ExtensionField.coordinates g.EF.Field.ring.zero g.H.TreeHash.digests l.values (8 * l.group + l.j)

abbrev pub invariant-loop-place : goal.invariant-loop-place
invariant-loop-place g l = l.leaves.items
    ≡ pair_leaves_to (element_bytes g.F.PrimeField64.BYTES g.F.PrimeField64.number_of) g.EF.ExtensionField.coordinates g.EF.Field.ring.zero g.H.TreeHash.digests l.values l.place

use Rattle.std.proofs.Common.{◌≡◌, ◌+◌, ◌*◌}
use Rattle.stark_merkle.specs.Bytes.{element_bytes}
use Rattle.stark_fri_prover.specs.Commit.{leaves_of}
use Rattle.stark_fri_prover.proofs.commit.leaves.Given as goal

abbrev pub invariant-loop-group : goal.invariant-loop-group
invariant-loop-group g l = l.leaves.items
    ≡ leaves_of g.H.TreeHash.digests (element_bytes g.F.PrimeField64.BYTES g.F.PrimeField64.number_of) l.extended (8 * l.group)

abbrev pub invariant-loop-j : goal.invariant-loop-j
invariant-loop-j g l = l.leaves.items
    ≡ leaves_of g.H.TreeHash.digests (element_bytes g.F.PrimeField64.BYTES g.F.PrimeField64.number_of) l.extended (8 * l.group + l.j)

abbrev pub invariant-loop-place : goal.invariant-loop-place
invariant-loop-place g l = l.leaves.items
    ≡ leaves_of g.H.TreeHash.digests (element_bytes g.F.PrimeField64.BYTES g.F.PrimeField64.number_of) l.extended l.place

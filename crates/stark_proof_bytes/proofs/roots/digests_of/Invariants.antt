use Rattle.std.proofs.Common.{◌≡◌, ◌++◌, drop}
use Rattle.stark_fri_proof.specs.Paths.{digests_of}
use Rattle.stark_proof_bytes.proofs.roots.digests_of.Given as goal

-- What was taken, with what is left, is all.
abbrev pub invariant-loop-root : goal.invariant-loop-root
invariant-loop-root l = l.digests.items ++ digests_of (drop l.root-index l.roots) ≡ digests_of l.roots

use Rattle.std.proofs.Common.{◌≡◌, ◌++◌, drop}
use Rattle.stark_proof_bytes.specs.Roots.{bytes_joined, digests_writing}
use Rattle.stark_proof_bytes.proofs.roots.write_digests.Given as goal

-- What is written, with what is left to write, is all.
abbrev pub invariant-loop-digest : goal.invariant-loop-digest
invariant-loop-digest l = l.out.items ++ bytes_joined (drop l.digest-index l.digests) ≡ l.fn.out.items ++ digests_writing l.fn.digests

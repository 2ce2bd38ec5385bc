use Rattle.std.proofs.Common.{◌≡◌, ◌<◌, ℕ, List, Some}
use Rattle.std.specs.List.{slice_get}
use Rattle.stark_fri_proof.specs.Paths.{IsDigest}
use Rattle.stark_fri_proof.proofs.path.are_digests.Given as goal

abbrev pub invariant-loop-digest : goal.invariant-loop-digest
invariant-loop-digest l = (place : ℕ) (x : List ℕ) → place < l.digest-index → slice_get l.digests place ≡ Some x → IsDigest x

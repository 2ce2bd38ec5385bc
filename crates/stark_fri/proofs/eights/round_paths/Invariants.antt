use Rattle.std.proofs.Common.{◌≡◌, ◌<◌, ℕ, length}
use Rattle.stark_merkle.specs.Eight.{path_at}
use Rattle.stark_fri_proof.specs.Paths.{digests_of}
use Rattle.stark_fri.specs.Eights.{IsReadAt}
use Rattle.stark_fri.proofs.eights.round_paths.Given as goal

abbrev pub invariant-loop-i : goal.invariant-loop-i
invariant-loop-i g l = (length l.paths ≡ 8)
    × ((k : ℕ) → k < l.i → IsReadAt (λ query. query.inputs) (λ input. digests_of input.path) l.round l.queries k (path_at l.paths k))

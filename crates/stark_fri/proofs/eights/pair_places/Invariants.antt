use Rattle.std.proofs.Common.{◌≡◌, ◌<◌, ℕ, length, slice_index}
use Rattle.stark_fri.specs.Eights.{IsReadAt}
use Rattle.stark_fri.proofs.eights.pair_places.Given as goal

abbrev pub invariant-loop-i : goal.invariant-loop-i
invariant-loop-i g l = (length l.places ≡ 8)
    × ((k : ℕ) → k < l.i → IsReadAt (λ walk. walk.pairs.items) (λ pair. pair.place) l.layer l.walks k (slice_index l.places k))

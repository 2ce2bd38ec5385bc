use Rattle.std.proofs.Common.{◌≡◌, ◌≤◌, length, drop}
use Rattle.stark_folding.specs.Reduce.{reduced_at}
use Rattle.stark_folding.proofs.reduce.reduce_claims.Given as goal

abbrev pub invariant-loop-index : goal.invariant-loop-index
invariant-loop-index g l =
    (l.index ≤ length l.claims) × (l.sum ≡ reduced_at g.F.Field.ring g.F.Field.inverse_of l.alpha l.x (drop l.index l.claims))

abbrev pub decreases-loop-index : goal.decreases-loop-index
decreases-loop-index g l = l.index

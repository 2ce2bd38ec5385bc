use Rattle.std.proofs.Common.{◌≡◌, [], ◌∷◌, map, replicate}
use Rattle.stark_prover.proofs.rounds.each_at.Given as goal

abbrev pub invariant-loop-matrix : goal.invariant-loop-matrix
invariant-loop-matrix g l = map (λ p. p.items) l.points.items ≡ replicate l._matrix (l.zeta ∷ [])

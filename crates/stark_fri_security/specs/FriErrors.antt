-- How few of the STARK's draws are bad for columns and chunks of degree at most the height, as FRI shows of them.
use Rattle.std.specs.Prelude.{◌≡◌, ℕ, ◌+◌, ◌^◌, List, Option}
use Rattle.stark_support.specs.TwoAdic.{HasOrder}
use Rattle.stark_air.specs.Tree.{Constraint}
use Rattle.stark_security.specs.ConstraintPolynomial.{AirInstance}
use Rattle.stark_security.specs.DegreeBound.{alpha_bound, error_bound, zeta_bound}
use Rattle.stark_security.specs.ErrorBound.{FewBadDraws, IsChunkCount}

-- The bounds on bad draws over traces of 2^k rows.
pub record IsFriErrorBound {F : Type 0} (constraints : List (Constraint F)) (hint : Option ℕ) (k : ℕ) (answer : Option (ℕ × ℕ)) : Type 0 where
  pub chunks : ℕ
  pub sized : IsChunkCount 0 constraints hint 0 chunks
  pub exact : answer ≡ error_bound (alpha_bound constraints) (zeta_bound (2 ^ k + 1) (2 ^ k) chunks constraints)

-- Two numbers bound the bad draws of an AIR over the trace's rows, a subgroup of any generator.
abbrev pub BoundFriDraws : {F E : Type 0} → (F → ℕ → AirInstance F E) → Option ℕ → ℕ → ℕ × ℕ → Type 0
BoundFriDraws {F = F} air hint k bounds = (generator : F) (chunks : ℕ) → HasOrder (air generator k).base generator (2 ^ k) → IsChunkCount 0 (air generator k).constraints hint 0 chunks
    → FewBadDraws (air generator k) (2 ^ k + 1) chunks bounds.0 bounds.1

-- That bad draws are few, and which numbers say how few.
use Rattle.std.specs.Prelude.{◌≡◌, ◌⊎◌, ℕ, ◌+◌, ◌-◌, ◌*◌, ◌^◌, ◌≤◌, List, length, Option}
use Rattle.stark_support.specs.Logarithm.{IsCeilingOfLog}
use Rattle.stark_support.specs.Polynomial.{IsWithoutRepeats, HoldsOfAtMost}
use Rattle.stark_support.specs.TwoAdic.{HasOrder}
use Rattle.stark_support.specs.RecompositionPolynomial.{ChunksFit}
use Rattle.stark_air.specs.Tree.{Constraint}
use Rattle.stark_parts.specs.Sizing.{constraint_degree, quotient_multiple}
use Rattle.stark_security.specs.ConstraintPolynomial.{AirInstance, Columns}
use Rattle.stark_security.specs.DegreeBound.{alpha_bound, zeta_bound, error_bound}
use Rattle.stark_security.specs.BadValues.{ColumnsFit, Satisfies, IsBadAlpha, IsBalanced, IsBadZeta, count_pairs}
use Rattle.stark_support.specs.Scheme.{zk_bits}
use Rattle.stark_security.specs.Openings.{hides}
use Rattle.stark_security.specs.declared.openings.OpeningShape.{OpeningShape}

-- The quotient of these constraints is cut into so many chunks, where the transition selector has degree d in multiples of the
-- domain's size, 0 on a two-adic one.
pub record IsChunkCount {F : Type 0} (d : ℕ) (constraints : List (Constraint F)) (hint : Option ℕ) (is_zk : ℕ) (chunks : ℕ) : Type 0 where
  pub log : ℕ
  pub sized : IsCeilingOfLog log (quotient_multiple (constraint_degree d constraints hint) is_zk)
  pub number : chunks ≡ 2 ^ (log + is_zk)

-- The bounds on bad draws for committed columns of 2 ^ degree_bits coefficients.
pub record IsErrorBound {F : Type 0} (constraints : List (Constraint F)) (hint : Option ℕ) (degree_bits : ℕ) (is_zk : ℕ) (answer : Option (ℕ × ℕ)) : Type 0 where
  pub chunks : ℕ
  pub sized : IsChunkCount 0 constraints hint is_zk chunks
  pub exact : answer ≡ error_bound (alpha_bound constraints) (zeta_bound (2 ^ degree_bits) (2 ^ (degree_bits - is_zk)) chunks constraints)

-- Of columns of degree below m and public values that break a constraint at most `na` alphas are bad; for each other alpha and
-- so many chunks of degree below m at most `nz` zetas are; and whatever chunks answer each alpha, of alphas and zetas without
-- repeats the equation holds for few of the pairs.
pub record FewBadDraws {F E : Type 0} (i : AirInstance F E) (m : ℕ) (chunk_count : ℕ) (na : ℕ) (nz : ℕ) : Type 0 where
  pub alphas : (columns : Columns F E) → ColumnsFit m columns → (Satisfies i columns → ⊥) → HoldsOfAtMost na (IsBadAlpha i columns)
  pub zetas : (columns : Columns F E) → ColumnsFit m columns → (Satisfies i columns → ⊥) → (a : E) → (IsBadAlpha i columns a → ⊥)
      → (shifts : List E) (chunks : List (List (List E))) → length shifts ≡ chunk_count → ChunksFit m chunks → HoldsOfAtMost nz (IsBadZeta i columns shifts chunks a)
  pub pairs : (columns : Columns F E) → ColumnsFit m columns → (Satisfies i columns → ⊥)
      → (shifts : List E) (answer : E → List (List (List E))) → length shifts ≡ chunk_count → ((a : E) → ChunksFit m (answer a))
      → (decide : (a z : E) → IsBalanced i columns shifts (answer a) a z ⊎ (IsBalanced i columns shifts (answer a) a z → ⊥))
      → (alphas zetas : List E) → IsWithoutRepeats alphas → IsWithoutRepeats zetas → count_pairs decide alphas zetas ≤ na * length zetas + nz * length alphas

-- Two numbers bound the bad draws of an AIR over the trace's rows, a subgroup of any generator, whatever chunks its quotient is cut
-- into. The committed columns have 2 ^ degree_bits coefficients.
abbrev pub BoundBadDraws : {F E : Type 0} → (F → ℕ → AirInstance F E) → Option ℕ → ℕ → ℕ → ℕ × ℕ → Type 0
BoundBadDraws {F = F} air hint degree_bits is_zk bounds = (generator : F) (chunks : ℕ)
    → HasOrder (air generator (degree_bits - is_zk)).base generator (2 ^ (degree_bits - is_zk))
    → IsChunkCount 0 (air generator (degree_bits - is_zk)).constraints hint is_zk chunks
    → FewBadDraws (air generator (degree_bits - is_zk)) (2 ^ degree_bits) chunks bounds.0 bounds.1

-- ---- under an opening's shape, which says whether the quotient is masked

-- So many chunks, as many as a machine's number holds.
abbrev pub IsChunkCountFor : {F : Type 0} → ℕ → List (Constraint F) → Option ℕ → OpeningShape → ℕ → Type 0
IsChunkCountFor d constraints hint shape chunks = IsChunkCount d constraints hint (zk_bits (hides shape)) chunks

abbrev pub HasRoomForChunks : {F : Type 0} → ℕ → List (Constraint F) → Option ℕ → OpeningShape → Type 0
HasRoomForChunks d constraints hint shape = quotient_multiple (constraint_degree d constraints hint) (zk_bits (hides shape)) ≤ 2 ^ (63 - zk_bits (hides shape))

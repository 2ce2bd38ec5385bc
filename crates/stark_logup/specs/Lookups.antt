-- Lookups of tuples: which draws let a trace pass whose tuples don't balance, and that they are few.
use Rattle.std.specs.Prelude.{◌≡◌, ◌≢◌, ◌⊎◌, ℕ, ◌-◌, ◌*◌, List, [], ◌∷◌, map, length}
use Rattle.std.specs.List.{AllByRecursion}
use Rattle.stark_support.specs.Ring.{RingOps}
use Rattle.stark_support.specs.Polynomial.{value, HoldsOfAtMost}
use Rattle.stark_logup.specs.Fractions.{Entry, Decides, total, IsBalanced, IsKeyOf, AuxiliaryColumns, joined, rows_below}

-- A tuple t as one element: the sum of t_j beta^j.
abbrev pub compressed : {K : Type 0} → RingOps K → K → Entry (List K) K → Entry K K
compressed ring beta e = record { key = value ring e.key beta; multiplicity = e.multiplicity }

-- What the rows list, all in one list.
abbrev pub listed : {A : Type 0} → (ℕ → List (List A)) → ℕ → List A
listed groups rows = rows_below (λ r. joined (groups r)) rows

-- Beta makes another entry's tuple the same element as this tuple.
abbrev pub Collides : {K : Type 0} → RingOps K → K → List K → List (Entry (List K) K) → Type 0
Collides ring beta t [] = ⊥
Collides ring beta t (e ∷ es) = ((t ≢ e.key) × (value ring t beta ≡ value ring e.key beta)) ⊎ Collides ring beta t es

-- Each tuple has this many elements.
abbrev pub HaveWidth : {K : Type 0} → ℕ → List (Entry (List K) K) → Type 0
HaveWidth width es = AllByRecursion (λ e. length e.key ≡ width) es

module _ {K : Type 0} (ring : RingOps K) (groups : ℕ → List (List (Entry (List K) K))) (rows : ℕ) where
  -- A tuple of which not as much is received as is sent.
  abbrev pub IsUnbalanced : Decides (List K) → List K → Type 0
  IsUnbalanced same t = total ring same t (listed groups rows) ≢ ring.zero

  -- By beta another entry's tuple is the same element, so that this one's total may be hidden.
  abbrev pub IsBadBeta : List K → K → Type 0
  IsBadBeta t beta = Collides ring beta t (listed groups rows)

  -- The rows' groups, with their tuples compressed.
  abbrev pub compressed_groups : K → ℕ → List (List (Entry K K))
  compressed_groups beta r = map (map (compressed ring beta)) (groups r)

  -- Some auxiliary columns meet the constraints.
  abbrev pub CanPass : K → K → Type 0
  CanPass beta gamma = AuxiliaryColumns ring gamma (compressed_groups beta) rows

-- Where some tuple isn't balanced, few betas hide it; and by any other beta few gammas let any auxiliary columns pass. With n
-- entries of w elements these are (n - 1)(w - 1) and 2 n - 1.
pub record FewDrawsPass {K : Type 0} (ring : RingOps K) (groups : ℕ → List (List (Entry (List K) K))) (rows width : ℕ) : Type 0 where
  pub betas : (same : Decides (List K)) (t : List K) → IsUnbalanced ring groups rows same t
      → HoldsOfAtMost ((length (listed groups rows) - 1) * (width - 1)) (IsBadBeta ring groups rows t)
  pub gammas : (same : Decides (List K)) (t : List K) → IsUnbalanced ring groups rows same t → (beta : K) → (IsBadBeta ring groups rows t beta → ⊥)
      → HoldsOfAtMost (2 * length (listed groups rows) - 1) (CanPass ring groups rows beta)

-- A trace of a false lookup passes by few draws.
abbrev pub FalseLookupsFail : {K : Type 0} → RingOps K → Type 0
FalseLookupsFail {K} ring = (groups : ℕ → List (List (Entry (List K) K))) (rows width : ℕ) → HaveWidth width (listed groups rows) → FewDrawsPass ring groups rows width

-- A trace of a true lookup has its auxiliary columns, but where gamma is one of the compressed tuples.
abbrev pub TrueLookupsPass : {K : Type 0} → RingOps K → Type 0
TrueLookupsPass {K} ring = (groups : ℕ → List (List (Entry (List K) K))) (rows : ℕ) (same : Decides (List K)) → IsBalanced ring same (listed groups rows) → (beta gamma : K)
    → (IsKeyOf gamma (map (compressed ring beta) (listed groups rows)) → ⊥) → CanPass ring groups rows beta gamma

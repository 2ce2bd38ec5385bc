-- Lines of words: the first words plus z times the second ones.
use Rattle.std.specs.Prelude.{ℕ, ◌+◌, ◌*◌, ◌≤◌, Bool, cond, leb}
use Rattle.stark_support.specs.Ring.{RingOps}
use Rattle.stark_support.specs.Polynomial.{HoldsOfAtMost}
use Rattle.stark_fri_soundness.specs.Agreement.{AgreeTogether, ArePointsApart, count}

-- The words of a line at z.
abbrev pub line_at : {K : Type 0} → RingOps K → (ℕ → ℕ → K) → (ℕ → ℕ → K) → K → ℕ → ℕ → K
line_at ring first second z j i = ring.add (first j i) (ring.mul z (second j i))

-- On all but e of n places the line's m words at z agree with polynomials of degree below d, though on those places the words that
-- make the line don't all agree with such polynomials.
pub record IsBadLine {K : Type 0} (ring : RingOps K) (point : ℕ → K) (n d m e : ℕ) (first second : ℕ → ℕ → K) (z : K) : Type 0 where
  pub places : ℕ → Bool
  pub many : n ≤ count n places + e
  pub near : AgreeTogether ring point n d m places (line_at ring first second z)
  pub apart : AgreeTogether ring point n d m places first → AgreeTogether ring point n d m places second → ⊥

-- In a third of the minimum distance n - d a line is bad at no more than e + 1 elements (Roth and Zemor; Ames, Hazay, Ishai and
-- Venkitasubramaniam),
abbrev pub FewBadLinesInThird : {K : Type 0} → RingOps K → Type 0
FewBadLinesInThird {K} ring = (point : ℕ → K) (n d m e : ℕ) → ArePointsApart n point → 3 * e + d ≤ n → (first second : ℕ → ℕ → K)
    → HoldsOfAtMost (e + 1) (IsBadLine ring point n d m e first second)

-- and in half of it, as far as a word determines the codeword that it is near to, at no more than n + e.
abbrev pub FewBadLinesUnique : {K : Type 0} → RingOps K → Type 0
FewBadLinesUnique {K} ring = (point : ℕ → K) (n d m e : ℕ) → ArePointsApart n point → 2 * e + d ≤ n → (first second : ℕ → ℕ → K)
    → HoldsOfAtMost (n + e) (IsBadLine ring point n d m e first second)

-- At how many elements a line is bad at most, by the number of places, the degree and the radius: the smaller bound where it is known.
abbrev pub line_bound : ℕ → ℕ → ℕ → ℕ
line_bound n d e = cond (leb (3 * e + d) n) (e + 1) (n + e)

abbrev pub FewBadLines : {K : Type 0} → RingOps K → Type 0
FewBadLines {K} ring = (point : ℕ → K) (n d m e : ℕ) → ArePointsApart n point → 2 * e + d ≤ n → (first second : ℕ → ℕ → K)
    → HoldsOfAtMost (line_bound n d e) (IsBadLine ring point n d m e first second)

-- Claims that columns have values at points, and the quotients that are batched of them.
use Rattle.std.specs.Prelude.{◌≡◌, ◌≢◌, ℕ, suc, ◌+◌, ◌*◌, ◌<◌, ◌≤◌, Bool, true, List, map, slice_index_or}
use Rattle.std.specs.List.{AllByRecursion}
use Rattle.stark_support.specs.Ring.{RingOps, difference}
use Rattle.stark_support.specs.Polynomial.{HasDegreeBelow, value}
use Rattle.stark_folding.specs.Reduce.{Seen}
use Rattle.stark_fri_soundness.specs.Agreement.{Agrees, ArePointsApart, count}

-- Which column: of which matrix of which round of commitments.
pub record ColumnIndex : Type 0 where
  pub round : ℕ
  pub matrix : ℕ
  pub number : ℕ

-- A claim that a column has a value at a point. I is the type of the columns' indices.
pub record Claim (I K : Type 0) : Type 0 where
  pub column : I
  pub at : K
  pub claimed : K

module _ {K : Type 0} (ring : RingOps K) (inverse : K → K) where
  -- (u - v) / (x - z): what is batched of the claim that the value at z is v, where it is u at x.
  abbrev pub quotient_at : K → Seen K → K
  quotient_at x seen = ring.mul (difference ring seen.0 seen.1) (inverse (difference ring x seen.2))

  abbrev pub quotients_at : K → List (Seen K) → List K
  quotients_at x seen = map (quotient_at x) seen

  -- The quotient of one claim, as a word.
  abbrev pub quotient_word : (ℕ → K) → (ℕ → K) → K → K → ℕ → K
  quotient_word point word z v i = quotient_at (point i) (word i, v, z)

  module _ {I : Type 0} (columns : I → ℕ → K) where
    -- A claim with the column's value at a place.
    abbrev pub seen_at_place : ℕ → Claim I K → Seen K
    seen_at_place i claim = (columns claim.column i, claim.claimed, claim.at)

    abbrev pub all_seen_at : List (Claim I K) → ℕ → List (Seen K)
    all_seen_at claims i = map (seen_at_place i) claims

    -- The claims' quotients as words, and then zero words.
    abbrev pub quotient_words : (ℕ → K) → List (Claim I K) → ℕ → ℕ → K
    quotient_words point claims j i = slice_index_or (quotients_at (point i) (all_seen_at claims i)) j ring.zero

  -- ---- one claim

  -- On the places the word agrees with a polynomial of degree below d that has the value v at z.
  pub record AgreesWithClaim (point : ℕ → K) (n d : ℕ) (places : ℕ → Bool) (word : ℕ → K) (z v : K) : Type 0 where
    pub polynomial : List K
    pub degree : HasDegreeBelow d polynomial
    pub takes : (i : ℕ) → i < n → places i ≡ true → word i ≡ value ring polynomial (point i)
    pub claimed : value ring polynomial z ≡ v

  -- Where the quotient agrees with a polynomial of degree below d, the word agrees with one of degree below d + 1 of which the claim is true.
  abbrev pub ClaimsAreSound : Type 0
  ClaimsAreSound = (point : ℕ → K) (n d : ℕ) (places : ℕ → Bool) (word : ℕ → K) (z v : K) → ((i : ℕ) → i < n → point i ≢ z)
      → Agrees ring point n d places (quotient_word point word z v) → AgreesWithClaim point n (suc d) places word z v

-- Two polynomials of degree below d that agree with one word on all but e of n places each are equal, where 2 e + d is at most n.
abbrev pub OnePolynomial : {K : Type 0} → RingOps K → Type 0
OnePolynomial {K} ring = (point : ℕ → K) (n d e : ℕ) → ArePointsApart n point → 2 * e + d ≤ n → (word : ℕ → K) (first second : ℕ → Bool) → n ≤ count n first + e → n ≤ count n second + e
    → (p : Agrees ring point n d first word) (q : Agrees ring point n d second word) → (x : K) → value ring p.polynomial x ≡ value ring q.polynomial x

-- ---- all claims

-- Each column of which something is claimed agrees on the places with one polynomial of degree below d, and all claims are true of the
-- columns' polynomials.
pub record ClaimsHold {I K : Type 0} (ring : RingOps K) (point : ℕ → K) (n d : ℕ) (places : ℕ → Bool) (columns : I → ℕ → K) (claims : List (Claim I K)) : Type 0 where
  pub polynomials : I → List K
  pub degrees : (column : I) → HasDegreeBelow d (polynomials column)
  pub takes : AllByRecursion (λ (claim : Claim I K). (i : ℕ) → i < n → places i ≡ true → columns claim.column i ≡ value ring (polynomials claim.column) (point i)) claims
  pub are_true : AllByRecursion (λ (claim : Claim I K). value ring (polynomials claim.column) claim.at ≡ claim.claimed) claims

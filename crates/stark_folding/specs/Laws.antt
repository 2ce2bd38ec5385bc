-- What folding and batching promise.
use Rattle.std.specs.Prelude.{◌≡◌, ◌≢◌, ℕ, suc, ◌+◌, ◌-◌, ◌*◌, ◌^◌, ◌<◌, ◌≤◌, List, length, map}
use Rattle.std.specs.List.{AllByRecursion}
use Rattle.stark_support.specs.Coset.{AreValuesOn, IsTwoAdicCoset, TwoAdicCoset, coset_point, coset_size, coset_from}
use Rattle.stark_support.specs.Polynomial.{HasDegreeBelow, value}
use Rattle.stark_support.specs.Ring.{RingOps}
use Rattle.stark_folding.specs.Fold.{folded, folded_pair, squared_coset}
use Rattle.stark_folding.specs.OneBeta.{FoldsTo, IsCodeword}
use Rattle.stark_folding.specs.Reduce.{Opened, Seen, reduced, reduced_at, seen_at}
use Rattle.stark_folding.specs.Walk.{folded_all, steps_of_layers, last_coset, last_place, walked}

module _ {K : Type 0} (ring : RingOps K) (inverse : K → K) (adicity : ℕ) (root : ℕ → K) where
  -- Values at opposite points of a coset fold to the folded polynomial's value at their square.
  abbrev pub FoldsAgree : K → Type 0
  FoldsAgree beta = (c : TwoAdicCoset K) → IsTwoAdicCoset ring adicity c → (k : ℕ) → c.log_size ≡ suc k → (p : List K) (i : ℕ)
      → folded_pair ring inverse beta (coset_point ring root c i) (value ring p (coset_point ring root c i)) (value ring p (coset_point ring root c (i + 2 ^ k)))
      ≡ value ring (folded ring beta p) (coset_point ring root (squared_coset ring c) i)

  -- A word that folds to codewords of degree below n by two betas is a codeword of degree below 2 n.
  abbrev pub BetasAreFew : Type 0
  BetasAreFew = (c : TwoAdicCoset K) → IsTwoAdicCoset ring adicity c → (k : ℕ) → c.log_size ≡ suc k → (word : ℕ → K) (beta gamma : K) → beta ≢ gamma → (n : ℕ) (q r : List K)
      → HasDegreeBelow n q → HasDegreeBelow n r → FoldsTo ring inverse root c k word beta q → FoldsTo ring inverse root c k word gamma r → IsCodeword ring root c k (2 * n) word

  -- By the values of an honest prover's layers a query leads to the value of the last folded polynomial.
  abbrev pub WalksEnd : Type 0
  WalksEnd = (c : TwoAdicCoset K) → IsTwoAdicCoset ring adicity c → (betas : List K) → length betas ≤ c.log_size → (p : List K) (i : ℕ) → i < coset_size c
      → walked ring inverse root c i (value ring p (coset_point ring root c i)) (steps_of_layers ring root c i p betas)
      ≡ value ring (folded_all ring betas p) (coset_point ring root (last_coset ring (length betas) c) (last_place ring (length betas) c i))

-- The values of a polynomial on that coset become those of the folded polynomial on the coset of the squares.
abbrev pub FoldsOn : {K : Type 0} → RingOps K → (ℕ → K) → K → ℕ → K → List K → List K → Type 0
FoldsOn {K} ring root shift log_size beta codeword half = (p : List K) → AreValuesOn ring root (coset_from shift log_size) (2 ^ log_size) (value ring p) codeword
    → AreValuesOn ring root (squared_coset ring (coset_from shift log_size)) (2 ^ (log_size - 1)) (value ring (folded ring beta p)) half

module _ {K : Type 0} (ring : RingOps K) (inverse : K → K) (alpha : K) where
  -- Of true claims a query computes the value at x of one polynomial, which doesn't depend on x.
  abbrev pub ReductionsAgree : Type 0
  ReductionsAgree = (x : K) (os : List (Opened K)) → AllByRecursion (λ (o : Opened K). x ≢ o.1) os
      → reduced_at ring inverse alpha x (map (seen_at ring x) os) ≡ value ring (reduced ring alpha os) x

  -- Its degree is one below that of the columns.
  abbrev pub ReducesDegree : Type 0
  ReducesDegree = (n : ℕ) (os : List (Opened K)) → AllByRecursion (λ (o : Opened K). HasDegreeBelow (suc n) o.0) os → HasDegreeBelow n (reduced ring alpha os)

-- The query's point is none of the claims' points.
abbrev pub IsApart : {K : Type 0} → K → List (Seen K) → Type 0
IsApart x claims = AllByRecursion (λ (c : Seen _). x ≢ c.2) claims

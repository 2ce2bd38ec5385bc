-- A run of FRI: claims batched into one word by the powers of alpha, as `reduced_at` computes it, and that word folded and queried.
use Rattle.std.specs.Prelude.{◌≡◌, ◌≢◌, ℕ, ◌+◌, ◌-◌, ◌*◌, ◌^◌, ◌<◌, ◌≤◌, List, length}
use Rattle.std.specs.List.{AllByRecursion}
use Rattle.stark_support.specs.Ring.{RingOps}
use Rattle.stark_support.specs.Coset.{IsTwoAdicCoset, TwoAdicCoset, coset_point, coset_size}
use Rattle.stark_support.specs.Polynomial.{HasDegreeBelow}
use Rattle.stark_folding.specs.Reduce.{reduced_at}
use Rattle.stark_fri_soundness.specs.Chain.{Layer, NoBadBeta, Passes, SomeBadBeta, first_word}
use Rattle.stark_fri_soundness.specs.Claims.{Claim, all_seen_at, quotient_words}
use Rattle.stark_fri_soundness.specs.Curve.{IsBadPower}

-- The words that the prover is bound to, one for each column and one for each fold, and what was claimed and drawn: the alpha of the batch,
-- the layers with their betas, and the final polynomial.
pub record Run (I K : Type 0) : Type 0 where
  pub coset : TwoAdicCoset K
  pub columns : I → ℕ → K
  pub claims : List (Claim I K)
  pub alpha : K
  pub layers : List (Layer K)
  pub final : List K

module _ {I K : Type 0} (ring : RingOps K) (inverse : K → K) (root : ℕ → K) (run : Run I K) where
  abbrev pub run_point : ℕ → K
  run_point = coset_point ring root run.coset

  abbrev pub run_size : ℕ
  run_size = coset_size run.coset

  abbrev pub run_words : ℕ → ℕ → K
  run_words = quotient_words ring inverse run.columns run_point run.claims

  -- The degree bound of the batched word, where that of the final polynomial is d.
  abbrev pub run_degree : ℕ → ℕ
  run_degree d = 2 ^ length run.layers * d

  -- The coset has at least as many bits as there are folds, no claim's point is on it, and twice the radius e is below the distance of the
  -- code of polynomials of that degree.
  pub record RunFits (adicity d e : ℕ) : Type 0 where
    pub valid : IsTwoAdicCoset ring adicity run.coset
    pub folds : length run.layers ≤ run.coset.log_size
    pub off : AllByRecursion (λ (claim : Claim I K). (i : ℕ) → i < run_size → run_point i ≢ claim.at) run.claims
    pub final : HasDegreeBelow d run.final
    pub radius : 2 * e + run_degree d < run_size

  -- An alpha is bad for the claims' quotients.
  abbrev pub IsBadAlpha : (d e : ℕ) → K → Type 0
  IsBadAlpha d e alpha = IsBadPower ring run_point run_size (run_degree d) (length run.claims - 1) e run_words alpha

  -- Some beta is bad for the word that it folds.
  abbrev pub HasBadBeta : (d e : ℕ) → Type 0
  HasBadBeta d e = SomeBadBeta ring inverse root run.coset d e run.layers

  -- Neither alpha is bad nor a beta.
  pub record NoDrawIsBad (d e : ℕ) : Type 0 where
    pub alpha : IsBadAlpha d e run.alpha → ⊥
    pub betas : NoBadBeta ring inverse root run.coset d e run.layers

  -- At the place the columns' batched value is the first layer's, and the layers fold to one another and to the final polynomial.
  abbrev pub PlacePasses : ℕ → Type 0
  PlacePasses i = (reduced_at ring inverse run.alpha (run_point i) (all_seen_at ring inverse run.columns run.claims i) ≡ first_word ring inverse root run.coset run.final run.layers i)
      × Passes ring inverse root run.coset run.final run.layers i

-- FRI is sound by count: what passing places say where nothing drawn is bad, how few draws are bad, and how few queries pass by chance.
use Rattle.std.specs.Prelude.{◌≡◌, ◌⊎◌, ℕ, suc, ◌+◌, ◌-◌, ◌*◌, ◌/◌, ◌^◌, ◌<◌, ◌≤◌, Bool, true, ⊤, List, [], ◌∷◌, length}
use Rattle.std.specs.List.{AllByRecursion}
use Rattle.stark_support.specs.Ring.{RingOps}
use Rattle.stark_support.specs.Coset.{TwoAdicCoset}
use Rattle.stark_support.specs.Polynomial.{HoldsOfAtMost}
use Rattle.stark_folding.specs.Fold.{squared_coset}
use Rattle.stark_folding.specs.Walk.{half_size}
use Rattle.stark_fri_soundness.specs.Agreement.{count}
use Rattle.stark_fri_soundness.specs.Beta.{IsBadBeta}
use Rattle.stark_fri_soundness.specs.Chain.{Layer}
use Rattle.stark_fri_soundness.specs.Claims.{ClaimsHold}
use Rattle.stark_fri_soundness.specs.Line.{line_bound}
use Rattle.stark_fri_soundness.specs.Run.{HasBadBeta, IsBadAlpha, NoDrawIsBad, PlacePasses, Run, RunFits, run_degree, run_point, run_size}

-- Where nothing drawn is bad and all but e places pass, the columns agree there with polynomials of which all claims are true.
abbrev pub FriIsSound : (I : Type 0) {K : Type 0} → RingOps K → (K → K) → (ℕ → K) → ℕ → Type 0
FriIsSound I {K} ring inverse root adicity = (run : Run I K) (d e : ℕ) → RunFits ring inverse root run adicity d e → NoDrawIsBad ring inverse root run d e
    → (places : ℕ → Bool) → run_size ring inverse root run ≤ count (run_size ring inverse root run) places + e
    → ((i : ℕ) → i < run_size ring inverse root run → places i ≡ true → PlacePasses ring inverse root run i)
    → ClaimsHold ring (run_point ring inverse root run) (run_size ring inverse root run) (suc (run_degree ring inverse root run d)) places run.columns run.claims

-- Nothing drawn is bad, or alpha is, or a beta is.
abbrev pub BadDrawsAreDecided : (I : Type 0) {K : Type 0} → RingOps K → (K → K) → (ℕ → K) → ℕ → Type 0
BadDrawsAreDecided I {K} ring inverse root adicity = (run : Run I K) (d e : ℕ) → RunFits ring inverse root run adicity d e
    → NoDrawIsBad ring inverse root run d e ⊎ (IsBadAlpha ring inverse root run d e run.alpha ⊎ HasBadBeta ring inverse root run d e)

-- ---- how few are bad

module _ {K : Type 0} (ring : RingOps K) (inverse : K → K) (root : ℕ → K) where
  -- At each fold few betas are bad, about half as many from one to the next.
  unfoldable pub FewBadInFolds : TwoAdicCoset K → ℕ → ℕ → List (Layer K) → Type 0
  FewBadInFolds c d e [] = ⊤
  FewBadInFolds c d e (layer ∷ layers) =
      HoldsOfAtMost (line_bound (half_size c) (2 ^ length layers * d) (e / 2)) (IsBadBeta ring inverse root c (2 ^ length layers * d) (e / 2) layer.0) × FewBadInFolds (squared_coset ring c) d (e / 2) layers

-- No more than (c - 1) (n + e) alphas are bad for c claims, and at each fold few betas.
abbrev pub FewAreBad : (I : Type 0) {K : Type 0} → RingOps K → (K → K) → (ℕ → K) → ℕ → Type 0
FewAreBad I {K} ring inverse root adicity = (run : Run I K) (d e : ℕ) → RunFits ring inverse root run adicity d e
    → HoldsOfAtMost ((length run.claims - 1) * (run_size ring inverse root run + e)) (IsBadAlpha ring inverse root run d e) × FewBadInFolds ring inverse root run.coset d e run.layers

-- ---- queries

-- A list of this number of places, all of one set.
abbrev pub ArePlacesOf : ℕ → (ℕ → Bool) → ℕ → List ℕ → Type 0
ArePlacesOf n places number drawn = (length drawn ≡ number) × AllByRecursion (λ i. (i < n) × (places i ≡ true)) drawn

-- No more lists of places lie in a set than a power of the number of its places.
abbrev pub FewQueriesPass : Type 0
FewQueriesPass = (n : ℕ) (places : ℕ → Bool) (number : ℕ) → HoldsOfAtMost (count n places ^ number) (ArePlacesOf n places number)

-- Whether an alpha or a beta is bad is decided: by the sets of the finitely many places.
use Rattle.std.specs.Prelude.{◌⊎◌, ℕ, suc, ◌+◌, ◌-◌, ◌*◌, ◌/◌, ◌^◌, ◌%◌, ◌≤◌, Bool, List, [], ◌∷◌, length, refl}
use Rattle.std.proofs.Common.{sym, ◌∙◌, inl, inr, arith}
use Rattle.std.proofs.lemmas.Bool.{cases_lt}
use Rattle.stark_support.specs.Ring.{RingOps, FieldLaws}
use Rattle.stark_support.specs.TwoAdic.{TwoAdicLaws}
use Rattle.stark_support.specs.Coset.{IsTwoAdicCoset, TwoAdicCoset, coset_point, coset_size}
use Rattle.stark_folding.specs.Fold.{squared_coset}
use Rattle.stark_folding.specs.FoldFacts.{squares_valid}
use Rattle.stark_folding.specs.Walk.{half_size}
use Rattle.stark_fri_soundness.specs.Agreement.{AgreeTogether, Agrees, ArePointsApart, count}
use Rattle.stark_fri_soundness.specs.AgreementFacts.{agrees_within, decide_agrees, decide_together}
use Rattle.stark_fri_soundness.specs.Beta.{AgreesOn, IsBadBeta, folded_word, over}
use Rattle.stark_fri_soundness.specs.Chain.{Layer, NoBadBeta, SomeBadBeta}
use Rattle.stark_fri_soundness.specs.Counting.{count_more}
use Rattle.stark_fri_soundness.specs.Curve.{IsBadPower, combined_at}
use Rattle.stark_fri_soundness.specs.Halves.{place_below}
use Rattle.stark_fri_soundness.specs.Run.{run_degree, run_point, run_size, run_words}
use Rattle.stark_fri_soundness.specs.RunFacts.{points_apart}
use Rattle.stark_fri_soundness.specs.Searches.{SameBelow, decide_both, some_set_or_none}
use Rattle.stark_fri_soundness.specs.Sound.{BadDrawsAreDecided}

at_least_or_not : (n s : ℕ) → (n ≤ s) ⊎ (n ≤ s → ⊥)
at_least_or_not n s = elim (cases_lt s n) [ inl less ↦ inr (λ h. absurd (omega arith)) | inr least ↦ inl least ]

decide_not : {P : Type 0} → P ⊎ (P → ⊥) → (P → ⊥) ⊎ ((P → ⊥) → ⊥)
decide_not (inl holds) = inr (λ fails. fails holds)
decide_not (inr fails) = inl fails

-- As many places of both sets are counted where the sets are the same.
count_alike : (n e : ℕ) (places others : ℕ → Bool) → SameBelow n places others → n ≤ count n places + e → n ≤ count n others + e
count_alike n e places others same many = let more = count_more n places others (λ i below is. sym (same i below) ∙ is) in omega arith

module _ {K : Type 0} {ring : RingOps K} (point : ℕ → K) (n d : ℕ) (word : ℕ → K) where
  agrees_alike : (places others : ℕ → Bool) → SameBelow n places others → Agrees ring point n d places word → Agrees ring point n d others word
  agrees_alike places others same agrees = agrees_within point n d places others word word agrees (λ i below is. (same i below ∙ is, refl))

back : (n : ℕ) (places others : ℕ → Bool) → SameBelow n places others → SameBelow n others places
back n places others same i below = sym (same i below)

module _ {K : Type 0} {ring : RingOps K} {inverse : K → K} (laws : FieldLaws ring inverse) where
  -- ---- powers

  module _ (point : ℕ → K) (n d l e : ℕ) (apart : ArePointsApart n point) (words : ℕ → ℕ → K) (z : K) where
    abbrev IsBadOn : (ℕ → Bool) → Type 0
    IsBadOn places = (n ≤ count n places + e) × (Agrees ring point n d places (combined_at ring l words z) × (AgreeTogether ring point n d (suc l) places words → ⊥))

    bad_alike : (places others : ℕ → Bool) → SameBelow n places others → IsBadOn places → IsBadOn others
    bad_alike places others same bad = (
      count_alike n e places others same bad.0,
      (
        agrees_alike point n d (combined_at ring l words z) places others same bad.1.0,
        λ together. bad.1.1 (λ j below. agrees_alike point n d (words j) others places (back n places others same) (together j below)),
      ),
    )

    decide_bad_power : IsBadPower ring point n d l e words z ⊎ (IsBadPower ring point n d l e words z → ⊥)
    decide_bad_power =
        elim (some_set_or_none n IsBadOn bad_alike
        (λ places. decide_both (at_least_or_not n (count n places + e))
        (decide_both (decide_agrees laws point n d places (combined_at ring l words z) apart) (decide_not (decide_together laws point n d (suc l) places words apart))))) [
          | inl one ↦ inl (record { places = one.0; many = one.1.0; near = one.1.1.0; apart = one.1.1.1 })
          | inr none ↦ inr (λ bad. none bad.places (bad.many, (bad.near, bad.apart)))
        ]

  -- ---- betas

  module _ (adicity : ℕ) (root : ℕ → K) (generator : K) (two_adic : TwoAdicLaws ring adicity root generator) where
    squares_are_valid : (c : TwoAdicCoset K) → IsTwoAdicCoset ring adicity c → 1 ≤ c.log_size → IsTwoAdicCoset ring adicity (squared_coset ring c)
    squares_are_valid c valid some = squares_valid laws adicity root generator two_adic c valid (c.log_size - 1) (omega arith)

    module _ (c : TwoAdicCoset K) (valid : IsTwoAdicCoset ring adicity c) (some : 1 ≤ c.log_size) (d e : ℕ) (word : ℕ → K) (beta : K) where
      abbrev IsBetaBadOn : (ℕ → Bool) → Type 0
      IsBetaBadOn places =
          (half_size c ≤ count (half_size c) places + e)
          × (AgreesOn ring root (squared_coset ring c) d places (folded_word ring inverse root c beta word) × (AgreesOn ring root c (2 * d) (over c places) word → ⊥))

      -- What is the same on the half is so at the places over it.
      over_alike : (places others : ℕ → Bool) → SameBelow (half_size c) places others → SameBelow (coset_size c) (over c places) (over c others)
      over_alike places others same i below = same (i % half_size c) (place_below i (c.log_size - 1))

      beta_bad_alike : (places others : ℕ → Bool) → SameBelow (half_size c) places others → IsBetaBadOn places → IsBetaBadOn others
      beta_bad_alike places others same bad = (
        count_alike (half_size c) e places others same bad.0,
        (
          agrees_alike (coset_point ring root (squared_coset ring c)) (half_size c) d (folded_word ring inverse root c beta word) places others same bad.1.0,
          λ agrees. bad.1.1 (agrees_alike (coset_point ring root c) (coset_size c) (2 * d) word (over c others) (over c places)
              (back (coset_size c) (over c places) (over c others) (over_alike places others same)) agrees),
        ),
      )

      decide_bad_beta : IsBadBeta ring inverse root c d e word beta ⊎ (IsBadBeta ring inverse root c d e word beta → ⊥)
      decide_bad_beta =
          elim (some_set_or_none (half_size c) IsBetaBadOn beta_bad_alike
          (λ places. decide_both (at_least_or_not (half_size c) (count (half_size c) places + e))
          (decide_both
          (decide_agrees laws (coset_point ring root (squared_coset ring c)) (half_size c) d places (folded_word ring inverse root c beta word)
          (points_apart laws adicity root generator two_adic (squared_coset ring c) (squares_are_valid c valid some)))
          (decide_not (decide_agrees laws (coset_point ring root c) (coset_size c) (2 * d) (over c places) word (points_apart laws adicity root generator two_adic c valid)))))) [
            | inl one ↦ inl (record { places = one.0; many = one.1.0; near = one.1.1.0; apart = one.1.1.1 })
            | inr none ↦ inr (λ bad. none bad.places (bad.many, (bad.near, bad.apart)))
          ]

    some_bad_or_none : (c : TwoAdicCoset K) → IsTwoAdicCoset ring adicity c → (layers : List (Layer K)) → length layers ≤ c.log_size → (d e : ℕ)
        → SomeBadBeta ring inverse root c d e layers ⊎ NoBadBeta ring inverse root c d e layers
    unfolding SomeBadBeta NoBadBeta
    some_bad_or_none c valid [] few d e = inr tt
    some_bad_or_none c valid (layer ∷ layers) few d e =
        let some : 1 ≤ c.log_size = omega arith in
        elim (decide_bad_beta c valid some (2 ^ length layers * d) (e / 2) layer.0 layer.1) [
          | inl bad ↦ inl (inl bad)
          | inr good ↦ elim (some_bad_or_none (squared_coset ring c) (squares_are_valid c valid some) layers (omega arith) d (e / 2)) [
            | inl bad ↦ inl (inr bad)
            | inr rest ↦ inr (good, rest)
          ]
        ]

    pub bad_draws_are_decided : (I : Type 0) → BadDrawsAreDecided I ring inverse root adicity
    bad_draws_are_decided I run d e fits =
        elim (decide_bad_power (run_point ring inverse root run) (run_size ring inverse root run) (run_degree ring inverse root run d) (length run.claims - 1) e
        (points_apart laws adicity root generator two_adic run.coset fits.valid) (run_words ring inverse root run) run.alpha) [
          | inl bad ↦ inr (inl bad)
          | inr good ↦ elim (some_bad_or_none run.coset fits.valid run.layers fits.folds d e) [
            | inl bad ↦ inr (inr bad)
            | inr betas ↦ inl (record { alpha = good; betas = betas })
          ]
        ]

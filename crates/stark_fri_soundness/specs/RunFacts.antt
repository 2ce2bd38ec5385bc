-- FRI is sound: batch and folds together.
use Rattle.std.specs.Prelude.{◌≡◌, ℕ, zero, suc, ◌+◌, ◌-◌, ◌*◌, ◌/◌, ◌^◌, ◌<◌, ◌≤◌, Bool, true, List, [], ◌∷◌, length, refl, slice_index_or}
use Rattle.std.proofs.Common.{sym, ap, ◌∙◌, subst, arith}
use Rattle.std.proofs.lemmas.List.{length-map}
use Rattle.stark_support.specs.Ring.{RingOps, RingLaws, FieldLaws, difference}
use Rattle.stark_support.specs.RingSolver.{solve, nothing, ◌⊕◌, ◌⊗◌, v0}
use Rattle.stark_support.specs.Polynomial.{value}
use Rattle.stark_support.specs.TwoAdic.{TwoAdicLaws}
use Rattle.stark_support.specs.Coset.{IsTwoAdicCoset, TwoAdicCoset, coset_point, coset_size}
use Rattle.stark_support.specs.CosetFacts.{points_differ}
use Rattle.stark_folding.specs.Fold.{squared_coset}
use Rattle.stark_folding.specs.FoldFacts.{squares_valid}
use Rattle.stark_folding.specs.Reduce.{Seen, reduced_at}
use Rattle.stark_folding.specs.Walk.{half_size}
use Rattle.stark_fri_soundness.specs.Agreement.{AgreeTogether, Agrees, ArePointsApart, count}
use Rattle.stark_fri_soundness.specs.AgreementFacts.{agrees_within}
use Rattle.stark_fri_soundness.specs.BetaFacts.{few_bad_betas}
use Rattle.stark_fri_soundness.specs.Chain.{Layer, first_word}
use Rattle.stark_fri_soundness.specs.ChainFacts.{folds_are_sound, twice_as_much}
use Rattle.stark_fri_soundness.specs.ClaimFacts.{claims_hold, each_claim}
use Rattle.stark_fri_soundness.specs.Claims.{ClaimsHold, all_seen_at, quotients_at}
use Rattle.stark_fri_soundness.specs.Curve.{combined_at, listed}
use Rattle.stark_fri_soundness.specs.CurveFacts.{few_bad_powers, powers_are_sound}
use Rattle.stark_fri_soundness.specs.Halves.{size_is_twice}
use Rattle.stark_fri_soundness.specs.Run.{NoDrawIsBad, PlacePasses, Run, RunFits, run_degree, run_point, run_size, run_words}
use Rattle.stark_fri_soundness.specs.Sound.{FewAreBad, FewBadInFolds, FriIsSound}

module _ {K : Type 0} {ring : RingOps K} (laws : RingLaws ring) (inverse : K → K) where
  value_of_nothing : (m : ℕ) (alpha : K) → value ring (listed m (λ k. slice_index_or [] k ring.zero)) alpha ≡ ring.zero
  value_of_nothing zero alpha = refl
  value_of_nothing (suc m) alpha = ap (λ t. ring.add ring.zero (ring.mul t alpha)) (value_of_nothing m alpha) ∙ solve laws (alpha ∷ []) (nothing ⊕ nothing ⊗ v0) nothing refl

  -- What the verifier computes is the combination of the quotients.
  reduced_is_combined : (alpha x : K) (m : ℕ) (seen : List (Seen K)) → length seen ≤ m
      → value ring (listed m (λ k. slice_index_or (quotients_at ring inverse x seen) k ring.zero)) alpha ≡ reduced_at ring inverse alpha x seen
  unfolding reduced_at
  reduced_is_combined alpha x m [] few = value_of_nothing m alpha
  reduced_is_combined alpha x zero (s ∷ seen) few = absurd (omega arith)
  reduced_is_combined alpha x (suc m) (s ∷ seen) few =
      let q = ring.mul (difference ring s.0 s.1) (inverse (difference ring x s.2)) in
      ap (λ t. ring.add q (ring.mul t alpha)) (reduced_is_combined alpha x m seen (omega arith)) ∙ ap (ring.add q) (laws.mul_comm (reduced_at ring inverse alpha x seen) alpha)

enough_words : (c s : ℕ) → s ≡ c → s ≤ suc (c - 1)
enough_words c s same = omega arith

within_words : (j c : ℕ) → j < c → j < suc (c - 1)
within_words j c h = omega arith

radius_leaves : (e d n s : ℕ) → 2 * e + d < n → n ≤ s + e → suc d ≤ s
radius_leaves e d n s h k = omega arith

radius_halves : (e x h : ℕ) → 2 * e + 2 * x < 2 * h → 2 * (e / 2) + x < h
radius_halves e x h k = omega arith

weaker : (a b : ℕ) → a < b → a ≤ b
weaker a b h = omega arith

module _ {K : Type 0} {ring : RingOps K} {inverse : K → K} (laws : FieldLaws ring inverse) (adicity : ℕ) (root : ℕ → K) (generator : K) (two_adic : TwoAdicLaws ring adicity root generator) where
  pub points_apart : (c : TwoAdicCoset K) → IsTwoAdicCoset ring adicity c → ArePointsApart (coset_size c) (coset_point ring root c)
  points_apart c valid i j less below = points_differ laws adicity root generator two_adic c valid i j less below

  module _ {I : Type 0} (run : Run I K) (d e : ℕ) (fits : RunFits ring inverse root run adicity d e) where
    abbrev n : ℕ
    n = run_size ring inverse root run

    abbrev point : ℕ → K
    point = run_point ring inverse root run

    abbrev bound : ℕ
    bound = run_degree ring inverse root run d

    abbrev words : ℕ → ℕ → K
    words = run_words ring inverse root run

    abbrev l : ℕ
    l = length run.claims - 1

    module _ (good : NoDrawIsBad ring inverse root run d e) (places : ℕ → Bool) (many : n ≤ count n places + e) (pass : (i : ℕ) → i < n → places i ≡ true → PlacePasses ring inverse root run i) where
      first_near : Agrees ring point n bound places (first_word ring inverse root run.coset run.final run.layers)
      first_near = folds_are_sound laws adicity root generator two_adic run.coset fits.valid run.layers fits.folds d e run.final fits.final good.betas places many (λ i below is. (pass i below is).1)

      batch_near : Agrees ring point n bound places (combined_at ring l words run.alpha)
      batch_near = agrees_within point n bound places places (first_word ring inverse root run.coset run.final run.layers) (combined_at ring l words run.alpha) first_near
          (λ i below is. (
            is,
            reduced_is_combined laws.of_ring inverse run.alpha (point i) (suc l) (all_seen_at ring inverse run.columns run.claims i)
                (enough_words (length run.claims) (length (all_seen_at ring inverse run.columns run.claims i)) (length-map run.claims _))
                ∙ (pass i below is).0,
          ))

      all_near : AgreeTogether ring point n bound (suc l) places words
      all_near = powers_are_sound laws point n bound l e (points_apart run.coset fits.valid) words run.alpha good.alpha places many batch_near

      run_is_sound : ClaimsHold ring point n (suc bound) places run.columns run.claims
      run_is_sound =
          claims_hold laws point n bound (points_apart run.coset fits.valid) places run.columns (radius_leaves e bound n (count n places) fits.radius many) run.claims
          (each_claim laws point n bound (points_apart run.coset fits.valid) places run.columns run.claims fits.off
          (λ j below. all_near j (within_words j (length run.claims) below)))

  pub fri_is_sound : (I : Type 0) → FriIsSound I ring inverse root adicity
  fri_is_sound I run d e fits good places many pass = run_is_sound run d e fits good places many pass

  -- ---- how few are bad

  few_in_folds : (c : TwoAdicCoset K) → IsTwoAdicCoset ring adicity c → (layers : List (Layer K)) → length layers ≤ c.log_size → (d e : ℕ) → 2 * e + 2 ^ length layers * d < coset_size c
      → FewBadInFolds ring inverse root c d e layers
  unfolding FewBadInFolds
  few_in_folds c valid [] few d e radius = tt
  few_in_folds c valid (layer ∷ layers) few d e radius =
      let some : 1 ≤ c.log_size = omega arith in
      let squares = squares_valid laws adicity root generator two_adic c valid (c.log_size - 1) (omega arith) in
      let doubled : 2 * e + 2 * (2 ^ length layers * d) < 2 * half_size c
      = subst (λ t. 2 * e + t < 2 * half_size c) (sym (twice_as_much (length layers) d)) (subst (λ s. 2 * e + 2 ^ suc (length layers) * d < s) (size_is_twice c.log_size some) radius) in
      let less = radius_halves e (2 ^ length layers * d) (half_size c) doubled in (
        few_bad_betas laws adicity root generator two_adic c valid some (2 ^ length layers * d) (e / 2) (weaker _ _ less) layer.0,
        few_in_folds (squared_coset ring c) squares layers (omega arith) d (e / 2) less,
      )

  pub few_are_bad : (I : Type 0) → FewAreBad I ring inverse root adicity
  few_are_bad I run d e fits = (
    few_bad_powers laws (run_point ring inverse root run) (run_size ring inverse root run) (run_degree ring inverse root run d) (length run.claims - 1) e
        (points_apart run.coset fits.valid) (weaker _ _ fits.radius) (run_words ring inverse root run),
    few_in_folds run.coset fits.valid run.layers fits.folds d e fits.radius,
  )

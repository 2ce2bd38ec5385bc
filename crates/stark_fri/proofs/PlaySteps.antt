-- The steps of a loop that plays the folds.
use Rattle.std.proofs.Common.{◌≡◌, ◌∙◌, ℕ, suc, ◌+◌, ◌<◌, ◌≤◌, List, [], ◌∷◌, ◌++◌, length, get_or, drop, Result, Ok, Err, sym, ap, refl, subst, arith, append_assoc}
use Rattle.std.proofs.lemmas.List.{append-nil, drop_all}
use Rattle.stark_support.proofs.Places.{from_place}
use Rattle.stark_support.specs.Faults.{IsFirstFault}
use Rattle.stark_fri_proof.specs.declared.proof.Phase.{Phase}
use Rattle.stark_fri.specs.Found.{Plays}
use Rattle.stark_fri.specs.Parts.{SpongeCalls}
use Rattle.stark_fri.specs.Transcript.{Passes, after_phases, asked, betas_of, checks_of, worked}

module _ {C F E : Type 0} (sponge : SpongeCalls C F E) (bits : ℕ) where
  -- What is found behind a fold, counted from it.
  sooner : E → Result (List E × C) ℕ → Result (List E × C) ℕ
  sooner beta (Ok drawn) = Ok (beta ∷ drawn.0, drawn.1)
  sooner beta (Err k) = Err (suc k)

  -- What is found behind i folds, with the challenges that they drew.
  pub behind : ℕ → List E → Result (List E × C) ℕ → Result (List E × C) ℕ
  behind i done (Ok drawn) = Ok (done ++ drawn.0, drawn.1)
  behind i done (Err k) = Err (i + k)

  one_behind : (i : ℕ) (done after : List E) (beta : E) → after ≡ done ++ beta ∷ [] → (obtained : Result (List E × C) ℕ) → behind i done (sooner beta obtained) ≡ behind (i + 1) after obtained
  unfolding sooner behind
  one_behind i done after beta pushed (Ok drawn) = ap (λ t. Ok (t, drawn.1)) (sym (append_assoc done (beta ∷ []) drawn.0) ∙ ap (λ t. t ++ drawn.0) (sym pushed))
  one_behind i done after beta pushed (Err k) = ap (λ n. Err n) (omega arith)

  plays_cons : (state : C) (phase : Phase F) (phases : List (Phase F)) → Passes sponge bits (asked sponge state phase, phase.witness) → (obtained : Result (List E × C) ℕ)
      → Plays sponge bits (sponge.after_draw (worked sponge bits state phase)) phases obtained → Plays sponge bits state (phase ∷ phases) (sooner (sponge.draw (worked sponge bits state phase)) obtained)
  unfolding betas_of after_phases checks_of IsFirstFault sooner
  plays_cons state phase phases passes (Ok drawn) h = ((passes, h.0), ap (λ t. sponge.draw (worked sponge bits state phase) ∷ t) h.1, h.2)
  plays_cons state phase phases passes (Err k) h = (passes, h)

  module _ (start : C) (phases : List (Phase F)) where
    -- Whatever is found from here is found of the whole.
    abbrev pub PlaysSoFar : ℕ → C → List E → Type 0
    PlaysSoFar i state done = (obtained : Result (List E × C) ℕ) → Plays sponge bits state (drop i phases) obtained → Plays sponge bits start phases (behind i done obtained)

    pub plays_start : (done : List E) → done ≡ [] → PlaysSoFar 0 start done
    unfolding behind
    plays_start done none (Ok drawn) h = (h.0, ap (λ t. t ++ drawn.0) none ∙ h.1, h.2)
    plays_start done none (Err k) h = subst (λ n. Plays sponge bits start phases (Err n)) (omega arith) h

    module _ (i : ℕ) (state : C) (done : List E) (phase : Phase F) (within : i < length phases) (is : phase ≡ get_or phases i phase) (so_far : PlaysSoFar i state done) where
      plays_here : (obtained : Result (List E × C) ℕ) → Plays sponge bits state (phase ∷ drop (i + 1) phases) obtained → Plays sponge bits start phases (behind i done obtained)
      plays_here obtained h = so_far obtained (subst (λ t. Plays sponge bits state t obtained) (sym (from_place phases i (i + 1) phase refl within is)) h)

      pub plays_more : (next : C) (after : List E) (beta : E) → Passes sponge bits (asked sponge state phase, phase.witness) → next ≡ sponge.after_draw (worked sponge bits state phase) → beta ≡ sponge.draw (worked sponge bits state phase)
          → after ≡ done ++ beta ∷ [] → PlaysSoFar (i + 1) next after
      plays_more next after beta passes is_next is_beta pushed obtained h =
          subst (λ r. Plays sponge bits start phases r) (one_behind i done after beta pushed obtained)
          (subst (λ b. Plays sponge bits start phases (behind i done (sooner b obtained))) (sym is_beta)
          (plays_here (sooner (sponge.draw (worked sponge bits state phase)) obtained)
          (plays_cons state phase (drop (i + 1) phases) passes obtained (subst (λ s. Plays sponge bits s (drop (i + 1) phases) obtained) is_next h))))

      pub plays_stop : (Passes sponge bits (asked sponge state phase, phase.witness) → ⊥) → Plays sponge bits start phases (Err i)
      unfolding checks_of IsFirstFault behind
      plays_stop never = subst (λ n. Plays sponge bits start phases (Err n)) (omega arith) (plays_here (Err 0) never)

    pub plays_end : (i : ℕ) (state : C) (done : List E) → length phases ≤ i → PlaysSoFar i state done → Plays sponge bits start phases (Ok (done, state))
    unfolding betas_of after_phases checks_of behind
    plays_end i state done ended so_far =
        subst (λ t. Plays sponge bits start phases (Ok (t, state))) (append-nil done)
        (so_far (Ok ([], state)) (subst (λ t. Plays sponge bits state t (Ok ([], state))) (sym (drop_all i phases ended)) (tt, refl, refl)))

-- A transcript that was played, step by step.
use Rattle.std.proofs.Common.{◌≡◌, ◌∙◌, ℕ, List, Result, Ok, sym, ap, subst}
use Rattle.stark_support.specs.Sponge.{observed_all}
use Rattle.stark_fri_proof.specs.declared.proof.Phase.{Phase}
use Rattle.stark_fri.specs.Found.{Plays}
use Rattle.stark_fri.specs.Parts.{SpongeCalls}
use Rattle.stark_fri.specs.Transcript.{FoldsWork, Instance, Passes, QueryWorkPasses, after_alpha, after_claims, after_final, after_work, alpha_of, fold_betas, observed_claims, observed_extension, observed_parameters, places_from, query_places}

module _ {C F E : Type 0} (sponge : SpongeCalls C F E) (i : Instance C F E) (bits : ℕ) where
  module _ (behind_parameters behind_claims behind_alpha : C) (alpha : E) (is_parameters : behind_parameters ≡ observed_parameters sponge.observing i.start i.parameters)
      (is_claims : behind_claims ≡ observed_claims sponge.observing behind_parameters i.rounds) (is_alpha : alpha ≡ sponge.draw behind_claims) (is_behind : behind_alpha ≡ sponge.after_draw behind_claims) where
    same_claims : behind_claims ≡ after_claims sponge i
    same_claims = is_claims ∙ ap (λ s. observed_claims sponge.observing s i.rounds) is_parameters

    same_alpha : behind_alpha ≡ after_alpha sponge i
    same_alpha = is_behind ∙ ap sponge.after_draw same_claims

    module _ (work : ℕ) (phases : List (Phase F)) (is_work : work ≡ i.parameters.commit_proof_of_work_bits) (are_phases : phases ≡ i.proof.phases) where
      played : (obtained : Result (List E × C) ℕ) → Plays sponge work behind_alpha phases obtained → Plays sponge i.parameters.commit_proof_of_work_bits (after_alpha sponge i) i.proof.phases obtained
      played obtained h =
          subst (λ n. Plays sponge n (after_alpha sponge i) i.proof.phases obtained) is_work
          (subst (λ t. Plays sponge work (after_alpha sponge i) t obtained) are_phases
          (subst (λ s. Plays sponge work s phases obtained) same_alpha h))

      module _ (betas : List E) (behind_phases : C) (plays : Plays sponge work behind_alpha phases (Ok (betas, behind_phases)))
          (final : List E) (observed_final : C) (is_final : final ≡ i.proof.final_polynomial) (is_observed : observed_final ≡ observed_all (observed_extension sponge.observing) final behind_phases)
          (query_work : ℕ) (witness : F) (is_query_work : query_work ≡ i.parameters.query_proof_of_work_bits) (is_witness : witness ≡ i.proof.query_witness) where
        same_final : observed_final ≡ after_final sponge i
        same_final =
            is_observed ∙ ap (λ t. observed_all (observed_extension sponge.observing) t behind_phases) is_final
            ∙ ap (observed_all (observed_extension sponge.observing) i.proof.final_polynomial) (played (Ok (betas, behind_phases)) plays).2

        same_passes : Passes sponge query_work (observed_final, witness) ≡ QueryWorkPasses sponge i
        same_passes =
            ap (λ s. Passes sponge query_work (s, witness)) same_final ∙ ap (λ n. Passes sponge n (after_final sponge i, witness)) is_query_work
            ∙ ap (λ w. Passes sponge i.parameters.query_proof_of_work_bits (after_final sponge i, w)) is_witness

        pub replay_refuses : (Passes sponge query_work (observed_final, witness) → ⊥) → FoldsWork sponge i × (QueryWorkPasses sponge i → ⊥)
        replay_refuses fails = ((played (Ok (betas, behind_phases)) plays).0, λ passes. fails (subst (λ t. t) (sym same_passes) passes))

        pub replay_ends : Passes sponge query_work (observed_final, witness) → (behind_work : C) → behind_work ≡ sponge.after_check observed_final query_work witness → (count : ℕ) → count ≡ i.parameters.num_queries
            → (places : List ℕ) → places ≡ places_from sponge bits count behind_work
            → FoldsWork sponge i × QueryWorkPasses sponge i × ((alpha ≡ alpha_of sponge i) × (betas ≡ fold_betas sponge i) × (places ≡ query_places sponge i bits))
        replay_ends passes behind_work is_behind_work count is_count places are_places =
            let all = played (Ok (betas, behind_phases)) plays in
            let same_work : behind_work ≡ after_work sponge i
            = is_behind_work ∙ ap (λ s. sponge.after_check s query_work witness) same_final ∙ ap (λ n. sponge.after_check (after_final sponge i) n witness) is_query_work
            ∙ ap (sponge.after_check (after_final sponge i) i.parameters.query_proof_of_work_bits) is_witness in (
              all.0,
              subst (λ t. t) same_passes passes,
              (
                is_alpha ∙ ap sponge.draw same_claims,
                all.1,
                are_places ∙ ap (λ n. places_from sponge bits n behind_work) is_count ∙ ap (places_from sponge bits i.parameters.num_queries) same_work,
              ),
            )

-- The rounds behind a proof claim what its verifier asks.
use Rattle.std.proofs.Common.{◌≡◌, ◌∙◌, ap, refl, sym, subst, ℕ, ◌≤◌, List, map, Option, option_map}
use Rattle.std.specs.Prelude.{IfSome}
use Rattle.stark_support.specs.Claims.{RoundClaim}
use Rattle.stark_support.specs.Scheme.{QuotientChunk, matrix_row, natural_coset, true_claim, zk_bits}
use Rattle.std.specs.List.{flat_map}
use Rattle.stark_air.specs.Declaration.{Trace}
use Rattle.stark_proof.specs.ProofView.{OpeningsView}
use Rattle.stark_protocol.specs.Instance.{Instance, ProtocolOps}
use Rattle.stark_protocol.specs.OpenedClaims.{claims_of, preprocessed_place}
use Rattle.stark_protocol.specs.Sizes.{log_parts_of}
use Rattle.stark_protocol.specs.declared.preprocessed.PreprocessedProverData.{PreprocessedProverData}
use Rattle.stark_protocol.specs.declared.preprocessed.PreprocessedVerifierKey.{PreprocessedVerifierKey}
use Rattle.stark_prover.specs.ProofOfTrace.{IsRandomization, key_of, true_openings, with_masks, without_masks}
use Rattle.stark_prover.specs.ProverFault.{HasQuotient}
use Rattle.stark_prover.specs.Rounds.{place_of}
use Rattle.stark_prover.proofs.BehindSteps.{behind_rounds}
use Rattle.stark_prover.proofs.OpeningClaims.{HaveHeight, chunks_height, openings_are, place_is, proof_rounds, rounds_claims, rounds_openings}

module _ {S F E C K T P X Y : Type 0} {ops : ProtocolOps S F E C K T P X Y} {i : Instance S F C K} {coordinates : E → List F} {preprocessed_data : Option (PreprocessedProverData K T)} {height degree_bits : ℕ} {trace : Trace F}
    {columns preprocessed : List (List F)} {commitment : K} {prover_data : T} {alpha : E} {alpha_witness : F} {state : C} {chunks : List (QuotientChunk F)} {quotient : K} {quotient_data : T}
    (made : HasQuotient ops i coordinates preprocessed_data height degree_bits trace columns preprocessed commitment prover_data alpha alpha_witness state chunks quotient quotient_data) (key_is : i.key ≡ option_map key_of preprocessed_data) (zeta next_zeta : E)
    (extended : zk_bits ops.opening.is_zk ≤ degree_bits) (same : IfSome preprocessed_data (λ h. h.degree_bits ≡ degree_bits)) where
  -- the committed chunks have the trace's height
  heights : HaveHeight ops.opening.is_zk degree_bits chunks
  heights =
      let committed = made.quotient_committed in
      chunks_height ops.opening.fields.base ops.opening.fields.root ops.opening.fields.generator ops.opening.fields.ring ops.opening.fields.inverse ops.opening.fields.embed ops.opening.is_zk degree_bits
      (log_parts_of i.constraints i.degree_hint (zk_bits ops.opening.is_zk)) ops.opening.fields.dimension (matrix_row (flat_map coordinates committed.values) ops.opening.fields.dimension) chunks extended committed.chunked

  behind_are : {random : Option K} {random_data : Option T} {random_columns : Option (List (List F))} (randomization : IsRandomization ops i degree_bits random random_data random_columns)
      → (behind_rounds made key_is zeta next_zeta randomization).0 ≡ proof_rounds ops i degree_bits columns preprocessed chunks commitment quotient prover_data quotient_data zeta next_zeta preprocessed_data key_is random random_data random_columns
  unfolding behind_rounds
  behind_are (without_masks unmasked) = refl
  behind_are (with_masks masked is_random) = refl

  -- What a verifier asks of the proof, with the true openings.
  abbrev pub true_claims : Option K → Option (List (List F)) → List (RoundClaim F E K)
  true_claims random random_columns = claims_of (natural_coset ops.opening.fields.base degree_bits) zeta next_zeta i.key commitment quotient random (true_openings ops i columns preprocessed chunks random_columns zeta next_zeta)

  -- These rounds' claims, of their true values, are what a verifier asks.
  pub behind_claims : {random : Option K} {random_data : Option T} {random_columns : Option (List (List F))} (randomization : IsRandomization ops i degree_bits random random_data random_columns)
      → map (true_claim ops.opening.fields.ring ops.opening.fields.embed) (behind_rounds made key_is zeta next_zeta randomization).0 ≡ true_claims random random_columns
  behind_claims {random = random} {random_data = random_data} {random_columns = random_columns} randomization =
      ap (map (true_claim ops.opening.fields.ring ops.opening.fields.embed)) (behind_are randomization) ∙
      rounds_claims ops i degree_bits columns preprocessed chunks commitment quotient prover_data quotient_data zeta next_zeta preprocessed_data key_is heights same randomization ∙
      ap (λ (key : Option (PreprocessedVerifierKey K)). claims_of (natural_coset ops.opening.fields.base degree_bits) zeta next_zeta key commitment quotient random
      (rounds_openings ops i degree_bits columns preprocessed chunks commitment quotient prover_data quotient_data zeta next_zeta preprocessed_data key_is random_columns)) (sym key_is) ∙
      ap (λ (opened : OpeningsView E). claims_of (natural_coset ops.opening.fields.base degree_bits) zeta next_zeta i.key commitment quotient random opened)
      (openings_are ops i degree_bits columns preprocessed chunks commitment quotient prover_data quotient_data zeta next_zeta preprocessed_data key_is random_columns)

  -- So a scheme that accepts the rounds accepts the proof.
  pub behind_accepts : {random : Option K} {random_data : Option T} {random_columns : Option (List (List F))} (randomization : IsRandomization ops i degree_bits random random_data random_columns)
      → (opened : OpeningsView E) → opened ≡ true_openings ops i columns preprocessed chunks random_columns zeta next_zeta → (proof : P) (at : C)
      → ops.opening.scheme.Accepts i.scheme (map (true_claim ops.opening.fields.ring ops.opening.fields.embed) (behind_rounds made key_is zeta next_zeta randomization).0) proof at (place_of ops.opening.is_zk (option_map (λ of_data. of_data.prover_data) preprocessed_data))
      → ops.opening.scheme.Accepts i.scheme (claims_of (natural_coset ops.opening.fields.base degree_bits) zeta next_zeta i.key commitment quotient random opened) proof at (preprocessed_place ops.opening.is_zk i.key)
  behind_accepts {random = random} {random_columns = random_columns} randomization opened are proof at accepts =
      subst (λ (o : OpeningsView E). ops.opening.scheme.Accepts i.scheme (claims_of (natural_coset ops.opening.fields.base degree_bits) zeta next_zeta i.key commitment quotient random o) proof at (preprocessed_place ops.opening.is_zk i.key)) (sym are)
      (subst (λ (of_rounds : List (RoundClaim F E K)). ops.opening.scheme.Accepts i.scheme of_rounds proof at (preprocessed_place ops.opening.is_zk i.key)) (behind_claims randomization)
      (subst (λ (place : Option ℕ). ops.opening.scheme.Accepts i.scheme (map (true_claim ops.opening.fields.ring ops.opening.fields.embed) (behind_rounds made key_is zeta next_zeta randomization).0) proof at place)
      (place_is ops.opening.is_zk preprocessed_data ∙ ap (λ (key : Option (PreprocessedVerifierKey K)). preprocessed_place ops.opening.is_zk key) (sym key_is)) accepts))

-- What a prover opens are the claims of its proof.
use Rattle.std.specs.Prelude.{◌≡◌, ℕ, suc, ◌+◌, ◌≤◌, Bool, true, false, List, [], ◌∷◌, length, map, replicate, Option, None, Some, IfSome, option_map, slice_get}
use Rattle.std.proofs.Common.{◌∙◌, ap, sym, refl, arith}
use Rattle.stark_support.specs.Ring.{RingOps}
use Rattle.stark_support.specs.Coset.{TwoAdicCoset}
use Rattle.stark_support.specs.Claims.{RoundClaim}
use Rattle.stark_support.specs.Scheme.{AreQuotientChunks, OpenedRound, QuotientChunk, SchemeOps, committed_chunk, natural_coset, row_at, true_claim, true_matrix_claims, zk_bits}
use Rattle.stark_transcript.specs.Shape.{opens_next_row}
use Rattle.stark_proof.specs.ProofView.{OpeningsView, PreprocessedView}
use Rattle.stark_protocol.specs.Instance.{Instance, ProtocolOps}
use Rattle.stark_protocol.specs.Sizes.{quotient_coset}
use Rattle.stark_protocol.specs.declared.preprocessed.PreprocessedProverData.{PreprocessedProverData}
use Rattle.stark_protocol.specs.declared.preprocessed.PreprocessedVerifierKey.{PreprocessedVerifierKey}
use Rattle.stark_protocol.specs.OpenedClaims.{chunk_claim, claims_of, one_matrix, preprocessed_place, preprocessed_rounds, row_points}
use Rattle.stark_prover.specs.ProofOfTrace.{IsRandomization, key_of, row_if, true_openings, without_masks, with_masks}
use Rattle.stark_prover.specs.Rounds.{place_of, points_of}
use Rattle.stark_prover.proofs.OpeningSteps.{all_made, chunks_round, preprocessed_made, one_matrix_round, random_made, true_openings_of}

-- Each chunk is committed on the natural domain of 2 ^ degree_bits points.
abbrev pub HaveHeight : {F : Type 0} → Bool → ℕ → List (QuotientChunk F) → Type 0
HaveHeight {F = F} is_zk degree_bits chunks = (i : ℕ) (chunk : QuotientChunk F) → slice_get chunks i ≡ Some chunk → chunk.part.log_size + zk_bits is_zk ≡ degree_bits

-- The chunks of a quotient's values on its domain have that height.
pub chunks_height : {F E : Type 0} (base : RingOps F) (root : ℕ → F) (generator : F) (extension : RingOps E) (inverse : E → E) (embed : F → E) (is_zk : Bool) (degree_bits log_parts width : ℕ) (row : ℕ → List F) (chunks : List (QuotientChunk F))
    → zk_bits is_zk ≤ degree_bits → AreQuotientChunks base root extension inverse embed is_zk (quotient_coset base generator (natural_coset base degree_bits) log_parts) (log_parts + zk_bits is_zk) width row chunks → HaveHeight is_zk degree_bits chunks
chunks_height base root generator extension inverse embed is_zk degree_bits log_parts width row chunks extended chunked i q is =
    let part = ap (λ (c : TwoAdicCoset _). c.log_size) (chunked.chunk i q is).part in
    omega (arith, part, extended)

chunks_claim : {F E : Type 0} (base : RingOps F) (ring : RingOps E) (embed : F → E) (is_zk : Bool) (degree_bits : ℕ) (zeta : E) (chunks : List (QuotientChunk F)) → HaveHeight is_zk degree_bits chunks
    → ◌≡◌ {A = List (TwoAdicCoset F × List (E × List E))} (true_matrix_claims ring embed (map (committed_chunk base is_zk) chunks) (replicate (length chunks) (zeta ∷ [])))
    (map (chunk_claim (natural_coset base degree_bits) zeta) (map (λ chunk. row_at ring embed (committed_chunk base is_zk chunk).columns zeta) chunks))
chunks_claim base ring embed is_zk degree_bits zeta [] height = refl
chunks_claim base ring embed is_zk degree_bits zeta (chunk ∷ chunks) height =
    ap (λ bits. chunk_claim (natural_coset base bits) zeta (row_at ring embed (committed_chunk base is_zk chunk).columns zeta) ∷ true_matrix_claims ring embed (map (committed_chunk base is_zk) chunks) (replicate (length chunks) (zeta ∷ []))) (height 0 chunk refl) ∙
    ap (λ rest. chunk_claim (natural_coset base degree_bits) zeta (row_at ring embed (committed_chunk base is_zk chunk).columns zeta) ∷ rest) (chunks_claim base ring embed is_zk degree_bits zeta chunks (λ i q is. height (suc i) q is))

-- The place of the preprocessed round.
pub place_is : {K T : Type 0} (is_zk : Bool) (preprocessed_data : Option (PreprocessedProverData K T)) → place_of is_zk (option_map (λ of_data. of_data.prover_data) preprocessed_data) ≡ preprocessed_place is_zk (option_map key_of preprocessed_data)
place_is is_zk None = refl
place_is is_zk (Some preprocessed_data) = refl

module _ {S F E C K T P X Y : Type 0} (scheme : SchemeOps S F E C K T P X Y) (s : S) (base : RingOps F) (ring : RingOps E) (embed : F → E) (zeta next_zeta : E) where
  columns_claim : (degree_bits : ℕ) (columns : List (List F)) (commitment : K) (prover_data : T) (reads_next : Bool)
      → true_claim ring embed (one_matrix_round scheme s base ring embed zeta next_zeta degree_bits columns commitment prover_data (points_of zeta next_zeta reads_next))
      ≡ one_matrix commitment (natural_coset base degree_bits) (row_points zeta next_zeta (row_at ring embed columns zeta) (row_if reads_next (row_at ring embed columns next_zeta)))
  unfolding one_matrix_round
  columns_claim degree_bits columns commitment prover_data true = refl
  columns_claim degree_bits columns commitment prover_data false = refl

  module _ (degree_bits : ℕ) (columns preprocessed : List (List F)) (chunks : List (QuotientChunk F)) (is_zk : Bool) (commitment quotient : K) (prover_data quotient_data : T) (reads_next preprocessed_reads_next : Bool) (height : HaveHeight is_zk degree_bits chunks) where
    preprocessed_claim : (preprocessed_data : Option (PreprocessedProverData K T)) → IfSome preprocessed_data (λ h. h.degree_bits ≡ degree_bits)
        → map (true_claim ring embed) (preprocessed_made scheme s base ring embed zeta next_zeta degree_bits columns preprocessed chunks is_zk commitment quotient prover_data quotient_data reads_next preprocessed_reads_next preprocessed_data)
        ≡ preprocessed_rounds (natural_coset base degree_bits) zeta next_zeta (option_map key_of preprocessed_data) (option_map (λ of_data. record { local = row_at ring embed preprocessed zeta; next = row_if preprocessed_reads_next (row_at ring embed preprocessed next_zeta) }) preprocessed_data)
    unfolding preprocessed_made
    preprocessed_claim None same = refl
    preprocessed_claim (Some preprocessed_data) same =
        ap (λ claim. claim ∷ []) (columns_claim preprocessed_data.degree_bits preprocessed preprocessed_data.commitment preprocessed_data.prover_data preprocessed_reads_next) ∙
        ap (λ bits. one_matrix preprocessed_data.commitment (natural_coset base bits) (row_points zeta next_zeta (row_at ring embed preprocessed zeta) (row_if preprocessed_reads_next (row_at ring embed preprocessed next_zeta))) ∷ []) same

    -- Without a random commitment.
    claims_unmasked : (preprocessed_data : Option (PreprocessedProverData K T)) → IfSome preprocessed_data (λ h. h.degree_bits ≡ degree_bits)
        → map (true_claim ring embed) (all_made scheme s base ring embed zeta next_zeta degree_bits columns preprocessed chunks is_zk commitment quotient prover_data quotient_data reads_next preprocessed_reads_next None None None preprocessed_data)
        ≡ claims_of (natural_coset base degree_bits) zeta next_zeta (option_map key_of preprocessed_data) commitment quotient None
        (true_openings_of scheme s base ring embed zeta next_zeta degree_bits columns preprocessed chunks is_zk commitment quotient prover_data quotient_data reads_next preprocessed_reads_next None preprocessed_data)
    unfolding all_made random_made chunks_round true_openings_of
    claims_unmasked preprocessed_data same =
        let preprocessed_claims : List (RoundClaim F E K) = map (true_claim ring embed) (preprocessed_made scheme s base ring embed zeta next_zeta degree_bits columns preprocessed chunks is_zk commitment quotient prover_data quotient_data reads_next preprocessed_reads_next preprocessed_data) in
        let chunk_claims : List (TwoAdicCoset F × List (E × List E)) = true_matrix_claims ring embed (map (committed_chunk base is_zk) chunks) (replicate (length chunks) (zeta ∷ [])) in
        let trace : RoundClaim F E K = one_matrix commitment (natural_coset base degree_bits) (row_points zeta next_zeta (row_at ring embed columns zeta) (row_if reads_next (row_at ring embed columns next_zeta))) in
        let all_chunks : List (TwoAdicCoset F × List (E × List E)) = map (chunk_claim (natural_coset base degree_bits) zeta) (map (λ chunk. row_at ring embed (committed_chunk base is_zk chunk).columns zeta) chunks) in
        ap (λ (claim : RoundClaim F E K). claim ∷ (quotient, chunk_claims) ∷ preprocessed_claims) (columns_claim degree_bits columns commitment prover_data reads_next) ∙
        ap (λ (of_chunks : List (TwoAdicCoset F × List (E × List E))). trace ∷ (quotient, of_chunks) ∷ preprocessed_claims) (chunks_claim base ring embed is_zk degree_bits zeta chunks height) ∙
        ap (λ (rest : List (RoundClaim F E K)). trace ∷ (quotient, all_chunks) ∷ rest) (preprocessed_claim preprocessed_data same)

    claims_masked : (preprocessed_data : Option (PreprocessedProverData K T)) (k : K) (t : T) (cs : List (List F)) → IfSome preprocessed_data (λ h. h.degree_bits ≡ degree_bits)
        → map (true_claim ring embed) (all_made scheme s base ring embed zeta next_zeta degree_bits columns preprocessed chunks is_zk commitment quotient prover_data quotient_data reads_next preprocessed_reads_next (Some k) (Some t) (Some cs) preprocessed_data)
        ≡ claims_of (natural_coset base degree_bits) zeta next_zeta (option_map key_of preprocessed_data) commitment quotient (Some k)
        (true_openings_of scheme s base ring embed zeta next_zeta degree_bits columns preprocessed chunks is_zk commitment quotient prover_data quotient_data reads_next preprocessed_reads_next (Some cs) preprocessed_data)
    unfolding all_made random_made one_matrix_round true_openings_of
    claims_masked preprocessed_data k t cs same = ap (λ (rest : List (RoundClaim F E K)). one_matrix k (natural_coset base degree_bits) ((zeta, row_at ring embed cs zeta) ∷ []) ∷ rest) (claims_unmasked preprocessed_data same)

-- The preprocessed rows, of the data and of their key.
same_preprocessed : {K T E : Type 0} (preprocessed_data : Option (PreprocessedProverData K T)) (rows : PreprocessedView E) → option_map (λ _. rows) preprocessed_data ≡ option_map (λ _. rows) (option_map key_of preprocessed_data)
same_preprocessed None rows = refl
same_preprocessed (Some preprocessed_data) rows = refl

module _ {S F E C K T P X Y : Type 0} (ops : ProtocolOps S F E C K T P X Y) (i : Instance S F C K) (degree_bits : ℕ) (columns preprocessed : List (List F)) (chunks : List (QuotientChunk F)) (commitment quotient : K) (prover_data quotient_data : T) (zeta next_zeta : E)
    (preprocessed_data : Option (PreprocessedProverData K T)) (key : i.key ≡ option_map key_of preprocessed_data) where
  -- The rounds of a proof of a trace, with what they stand for.
  abbrev pub proof_rounds : Option K → Option T → Option (List (List F)) → List (OpenedRound F E K T)
  proof_rounds random random_data random_columns =
      all_made ops.opening.scheme i.scheme ops.opening.fields.base ops.opening.fields.ring ops.opening.fields.embed zeta next_zeta degree_bits columns preprocessed chunks ops.opening.is_zk commitment quotient prover_data quotient_data
      (opens_next_row i.main_next_columns) (opens_next_row i.preprocessed_next_columns) random random_data random_columns preprocessed_data

  abbrev pub rounds_openings : Option (List (List F)) → OpeningsView E
  rounds_openings random_columns =
      true_openings_of ops.opening.scheme i.scheme ops.opening.fields.base ops.opening.fields.ring ops.opening.fields.embed zeta next_zeta degree_bits columns preprocessed chunks ops.opening.is_zk commitment quotient prover_data quotient_data
      (opens_next_row i.main_next_columns) (opens_next_row i.preprocessed_next_columns) random_columns preprocessed_data

  -- Their true openings are the proof's.
  pub openings_are : (random_columns : Option (List (List F))) → rounds_openings random_columns ≡ true_openings ops i columns preprocessed chunks random_columns zeta next_zeta
  unfolding true_openings_of
  openings_are random_columns =
      let rows : PreprocessedView E = record {
        local = row_at ops.opening.fields.ring ops.opening.fields.embed preprocessed zeta;
        next = row_if (opens_next_row i.preprocessed_next_columns) (row_at ops.opening.fields.ring ops.opening.fields.embed preprocessed next_zeta);
      } in
      ap (λ (rows : Option (PreprocessedView E)). record (true_openings ops i columns preprocessed chunks random_columns zeta next_zeta) { preprocessed = rows })
      (same_preprocessed preprocessed_data rows ∙ ap (λ (k : Option (PreprocessedVerifierKey K)). option_map (λ _. rows) k) (sym key))

  module _ (height : HaveHeight ops.opening.is_zk degree_bits chunks) (same : IfSome preprocessed_data (λ h. h.degree_bits ≡ degree_bits)) where
    -- What the rounds claim, of their true values, is what a verifier claims of the true openings.
    pub rounds_claims : {random : Option K} {random_data : Option T} {random_columns : Option (List (List F))} → IsRandomization ops i degree_bits random random_data random_columns
        → map (true_claim ops.opening.fields.ring ops.opening.fields.embed) (proof_rounds random random_data random_columns)
        ≡ claims_of (natural_coset ops.opening.fields.base degree_bits) zeta next_zeta (option_map key_of preprocessed_data) commitment quotient random (rounds_openings random_columns)
    rounds_claims (without_masks plain) =
        claims_unmasked ops.opening.scheme i.scheme ops.opening.fields.base ops.opening.fields.ring ops.opening.fields.embed zeta next_zeta degree_bits columns preprocessed chunks ops.opening.is_zk commitment quotient prover_data quotient_data
        (opens_next_row i.main_next_columns) (opens_next_row i.preprocessed_next_columns) height preprocessed_data same
    rounds_claims (with_masks {commitment = k} {prover_data = t} {columns = cs} masked made) =
        claims_masked ops.opening.scheme i.scheme ops.opening.fields.base ops.opening.fields.ring ops.opening.fields.embed zeta next_zeta degree_bits columns preprocessed chunks ops.opening.is_zk commitment quotient prover_data quotient_data
        (opens_next_row i.main_next_columns) (opens_next_row i.preprocessed_next_columns) height preprocessed_data k t cs same

-- What stands behind the rounds of a proof's opening argument, and their true values.
use Rattle.std.proofs.Common.{◌≡◌, ◌∙◌, ap, refl, sym, ℕ, zero, suc, Bool, true, false, List, [], ◌∷◌, ◌++◌, length, map, replicate, Option, None, Some, option_map}
use Rattle.std.specs.List.{AllByRecursion}
use Rattle.std.proofs.lemmas.List.{length-map}
use Rattle.stark_support.specs.Ring.{RingOps}
use Rattle.stark_support.specs.Claims.{RoundPoints}
use Rattle.stark_support.specs.Scheme.{OpenedRound, QuotientChunk, RoundStands, SchemeOps, committed_chunk, handed, natural_coset, row_at, true_matrices, true_values}
use Rattle.stark_proof.specs.ProofView.{OpeningsView}
use Rattle.stark_protocol.specs.declared.preprocessed.PreprocessedProverData.{PreprocessedProverData}
use Rattle.stark_prover.specs.CommittedColumns.{IsPreprocessedCommitment, StandsForColumns}
use Rattle.stark_prover.specs.ProofOfTrace.{row_if}
use Rattle.stark_prover.specs.Rounds.{opened_lists, points_of, preprocessed_opened, preprocessed_points, rounds_of, rows_of}

module _ {S F E C K T P X Y : Type 0} (scheme : SchemeOps S F E C K T P X Y) (s : S) (base : RingOps F) (ring : RingOps E) (embed : F → E) (zeta next_zeta : E) where
  -- a round of one matrix
  unfoldable pub one_matrix_round : ℕ → List (List F) → K → T → List E → OpenedRound F E K T
  one_matrix_round degree_bits columns commitment prover_data points =
      record { commitment = commitment; prover_data = prover_data; matrices = record { domain = natural_coset base degree_bits; columns = columns } ∷ []; points = points ∷ [] }

  unfoldable pub chunks_round : Bool → List (QuotientChunk F) → K → T → OpenedRound F E K T
  chunks_round is_zk chunks commitment prover_data =
      record { commitment = commitment; prover_data = prover_data; matrices = map (committed_chunk base is_zk) chunks; points = replicate (length chunks) (zeta ∷ []) }

  length_replicated : {B : Type 0} (n : ℕ) (y : B) → length (replicate n y) ≡ n
  length_replicated zero y = refl
  length_replicated (suc n) y = ap suc (length_replicated n y)

  pub chunks_stand : (is_zk : Bool) (chunks : List (QuotientChunk F)) (commitment : K) (prover_data : T) → scheme.Stands s commitment prover_data (map (committed_chunk base is_zk) chunks) → RoundStands scheme s (chunks_round is_zk chunks commitment prover_data)
  unfolding chunks_round
  chunks_stand is_zk chunks commitment prover_data stands = record { stands = stands; number = length_replicated (length chunks) (zeta ∷ []) ∙ sym (length-map chunks (committed_chunk base is_zk)) }

  pub columns_stand : (degree_bits : ℕ) (columns : List (List F)) (commitment : K) (prover_data : T) (points : List E) → StandsForColumns scheme s base degree_bits columns commitment prover_data → RoundStands scheme s (one_matrix_round degree_bits columns commitment prover_data points)
  unfolding one_matrix_round
  columns_stand degree_bits columns commitment prover_data points stands = record { stands = stands; number = refl }

  -- The rows of columns at their points.
  pub true_rows : (degree_bits : ℕ) (columns : List (List F)) (commitment : K) (prover_data : T) (reads_next : Bool)
      → true_values ring embed (one_matrix_round degree_bits columns commitment prover_data (points_of zeta next_zeta reads_next)) ≡ rows_of (row_at ring embed columns zeta) (row_if reads_next (row_at ring embed columns next_zeta)) ∷ []
  unfolding one_matrix_round
  true_rows degree_bits columns commitment prover_data true = refl
  true_rows degree_bits columns commitment prover_data false = refl

  -- The chunks' rows at zeta.
  pub true_chunks : (is_zk : Bool) (chunks : List (QuotientChunk F)) → true_matrices ring embed (map (committed_chunk base is_zk) chunks) (replicate (length chunks) (zeta ∷ []))
      ≡ map (λ chunk. chunk ∷ []) (map (λ chunk. row_at ring embed (committed_chunk base is_zk chunk).columns zeta) chunks)
  true_chunks is_zk [] = refl
  true_chunks is_zk (chunk ∷ chunks) = ap (λ l. (row_at ring embed (committed_chunk base is_zk chunk).columns zeta ∷ []) ∷ l) (true_chunks is_zk chunks)

  module _ (degree_bits : ℕ) (columns preprocessed : List (List F)) (chunks : List (QuotientChunk F)) (is_zk : Bool) (commitment quotient : K) (prover_data quotient_data : T) (reads_next preprocessed_reads_next : Bool) where
    unfoldable pub random_made : Option K → Option T → Option (List (List F)) → List (OpenedRound F E K T)
    random_made (Some k) (Some t) (Some cs) = one_matrix_round degree_bits cs k t (zeta ∷ []) ∷ []
    random_made (Some k) (Some t) None = []
    random_made (Some k) None cs = []
    random_made None t cs = []

    unfoldable pub preprocessed_made : Option (PreprocessedProverData K T) → List (OpenedRound F E K T)
    preprocessed_made None = []
    preprocessed_made (Some preprocessed_data) = one_matrix_round preprocessed_data.degree_bits preprocessed preprocessed_data.commitment preprocessed_data.prover_data (points_of zeta next_zeta preprocessed_reads_next) ∷ []

    -- All rounds, with what they stand for.
    unfoldable pub all_made : Option K → Option T → Option (List (List F)) → Option (PreprocessedProverData K T) → List (OpenedRound F E K T)
    all_made random random_data random_columns preprocessed_data =
        random_made random random_data random_columns
        ++ (one_matrix_round degree_bits columns commitment prover_data (points_of zeta next_zeta reads_next) ∷ chunks_round is_zk chunks quotient quotient_data ∷ preprocessed_made preprocessed_data)

    pub preprocessed_stand : (preprocessed_data : Option (PreprocessedProverData K T)) → IsPreprocessedCommitment scheme s base preprocessed preprocessed_data → AllByRecursion (RoundStands scheme s) (preprocessed_made preprocessed_data)
    unfolding preprocessed_made
    preprocessed_stand None stands = tt
    preprocessed_stand (Some preprocessed_data) stands = (columns_stand preprocessed_data.degree_bits preprocessed preprocessed_data.commitment preprocessed_data.prover_data (points_of zeta next_zeta preprocessed_reads_next) stands.0, tt)

    preprocessed_handed : (preprocessed_data : Option (PreprocessedProverData K T)) → map handed (preprocessed_made preprocessed_data) ≡ preprocessed_points (points_of zeta next_zeta preprocessed_reads_next) (option_map (λ of_data. of_data.prover_data) preprocessed_data)
    unfolding preprocessed_made one_matrix_round
    preprocessed_handed None = refl
    preprocessed_handed (Some preprocessed_data) = refl

    preprocessed_values : (preprocessed_data : Option (PreprocessedProverData K T)) → map (true_values ring embed) (preprocessed_made preprocessed_data)
        ≡ preprocessed_opened (option_map (λ of_data. record { local = row_at ring embed preprocessed zeta; next = row_if preprocessed_reads_next (row_at ring embed preprocessed next_zeta) }) preprocessed_data)
    unfolding preprocessed_made
    preprocessed_values None = refl
    preprocessed_values (Some preprocessed_data) = ap (λ r. r ∷ []) (true_rows preprocessed_data.degree_bits preprocessed preprocessed_data.commitment preprocessed_data.prover_data preprocessed_reads_next)

    -- Without a random commitment.
    pub stand_unmasked : (preprocessed_data : Option (PreprocessedProverData K T)) → StandsForColumns scheme s base degree_bits columns commitment prover_data → scheme.Stands s quotient quotient_data (map (committed_chunk base is_zk) chunks)
        → IsPreprocessedCommitment scheme s base preprocessed preprocessed_data → AllByRecursion (RoundStands scheme s) (all_made None None None preprocessed_data)
    unfolding all_made random_made
    stand_unmasked preprocessed_data trace_stands quotient_stands stands =
        (columns_stand degree_bits columns commitment prover_data (points_of zeta next_zeta reads_next) trace_stands, (chunks_stand is_zk chunks quotient quotient_data quotient_stands, preprocessed_stand preprocessed_data stands))

    pub stand_masked : (preprocessed_data : Option (PreprocessedProverData K T)) (k : K) (t : T) (cs : List (List F)) → StandsForColumns scheme s base degree_bits cs k t → StandsForColumns scheme s base degree_bits columns commitment prover_data
        → scheme.Stands s quotient quotient_data (map (committed_chunk base is_zk) chunks) → IsPreprocessedCommitment scheme s base preprocessed preprocessed_data → AllByRecursion (RoundStands scheme s) (all_made (Some k) (Some t) (Some cs) preprocessed_data)
    unfolding all_made random_made
    stand_masked preprocessed_data k t cs random_stands trace_stands quotient_stands stands = (
      columns_stand degree_bits cs k t (zeta ∷ []) random_stands,
      (
        columns_stand degree_bits columns commitment prover_data (points_of zeta next_zeta reads_next) trace_stands,
        (chunks_stand is_zk chunks quotient quotient_data quotient_stands, preprocessed_stand preprocessed_data stands),
      ),
    )

    -- What the opening is handed of all rounds.
    pub all_handed_unmasked : (preprocessed_data : Option (PreprocessedProverData K T)) → rounds_of zeta (points_of zeta next_zeta reads_next) (points_of zeta next_zeta preprocessed_reads_next) (length chunks) None prover_data quotient_data (option_map (λ of_data. of_data.prover_data) preprocessed_data)
        ≡ map handed (all_made None None None preprocessed_data)
    unfolding all_made random_made one_matrix_round chunks_round
    all_handed_unmasked preprocessed_data =
        ap (λ (rest : List (RoundPoints E T)). (prover_data, points_of zeta next_zeta reads_next ∷ []) ∷ (quotient_data, replicate (length chunks) (zeta ∷ [])) ∷ rest) (sym (preprocessed_handed preprocessed_data))

    pub all_handed_masked : (preprocessed_data : Option (PreprocessedProverData K T)) (k : K) (t : T) (cs : List (List F))
        → rounds_of zeta (points_of zeta next_zeta reads_next) (points_of zeta next_zeta preprocessed_reads_next) (length chunks) (Some t) prover_data quotient_data (option_map (λ of_data. of_data.prover_data) preprocessed_data)
        ≡ map handed (all_made (Some k) (Some t) (Some cs) preprocessed_data)
    unfolding all_made random_made one_matrix_round chunks_round
    all_handed_masked preprocessed_data k t cs =
        ap (λ (rest : List (RoundPoints E T)). (t, (zeta ∷ []) ∷ []) ∷ (prover_data, points_of zeta next_zeta reads_next ∷ []) ∷ (quotient_data, replicate (length chunks) (zeta ∷ [])) ∷ rest) (sym (preprocessed_handed preprocessed_data))

    -- The true values of all rounds, each in its place.
    unfoldable pub true_openings_of : Option (List (List F)) → Option (PreprocessedProverData K T) → OpeningsView E
    true_openings_of random_columns preprocessed_data = record {
      trace_local = row_at ring embed columns zeta;
      trace_next = row_if reads_next (row_at ring embed columns next_zeta);
      preprocessed = option_map (λ of_data. record { local = row_at ring embed preprocessed zeta; next = row_if preprocessed_reads_next (row_at ring embed preprocessed next_zeta) }) preprocessed_data;
      quotient_chunks = map (λ chunk. row_at ring embed (committed_chunk base is_zk chunk).columns zeta) chunks;
      random = option_map (λ cs. row_at ring embed cs zeta) random_columns;
    }

    pub all_values_unmasked : (preprocessed_data : Option (PreprocessedProverData K T)) → map (true_values ring embed) (all_made None None None preprocessed_data) ≡ opened_lists (true_openings_of None preprocessed_data)
    unfolding all_made random_made chunks_round true_openings_of
    all_values_unmasked preprocessed_data =
        ap (λ r. r ∷ true_matrices ring embed (map (committed_chunk base is_zk) chunks) (replicate (length chunks) (zeta ∷ [])) ∷ map (true_values ring embed) (preprocessed_made preprocessed_data)) (true_rows degree_bits columns commitment prover_data reads_next) ∙
        ap (λ q. (rows_of (row_at ring embed columns zeta) (row_if reads_next (row_at ring embed columns next_zeta)) ∷ []) ∷ q ∷ map (true_values ring embed) (preprocessed_made preprocessed_data)) (true_chunks is_zk chunks) ∙
        ap (λ rest. (rows_of (row_at ring embed columns zeta) (row_if reads_next (row_at ring embed columns next_zeta)) ∷ []) ∷ map (λ chunk. chunk ∷ []) (map (λ chunk. row_at ring embed (committed_chunk base is_zk chunk).columns zeta) chunks) ∷ rest) (preprocessed_values preprocessed_data)

    pub all_values_masked : (preprocessed_data : Option (PreprocessedProverData K T)) (k : K) (t : T) (cs : List (List F)) → map (true_values ring embed) (all_made (Some k) (Some t) (Some cs) preprocessed_data) ≡ opened_lists (true_openings_of (Some cs) preprocessed_data)
    unfolding all_made random_made one_matrix_round true_openings_of
    all_values_masked preprocessed_data k t cs = ap (λ rest. ((row_at ring embed cs zeta ∷ []) ∷ []) ∷ rest) (all_values_unmasked preprocessed_data)

-- What a prover's commitments stand for.
use Rattle.std.specs.Prelude.{◌≡◌, ℕ, Bool, List, [], ◌∷◌, ◌^◌, codes, length, map, Option, None, Some}
use Rattle.std.specs.List.{flat_map}
use Rattle.stark_support.specs.Ring.{RingOps}
use Rattle.stark_support.specs.Coset.{TwoAdicCoset, coset_point, coset_size}
use Rattle.stark_support.specs.Scheme.{AreQuotientChunks, QuotientChunk, SchemeOps, TakesRows, committed_chunk, matrix_row, natural_coset, row_at}
use Rattle.stark_transcript.specs.declared.error.ProvingError.{ProvingError}
use Rattle.stark_air.specs.Declaration.{Trace}
use Rattle.stark_security.specs.ConstraintPolynomial.{AirInstance}
use Rattle.stark_protocol.specs.declared.preprocessed.PreprocessedProverData.{PreprocessedProverData}
use Rattle.stark_quotient.specs.PointwiseQuotient.{ArePointwiseQuotients, RowsOnCoset}
use Rattle.stark_prover.specs.SchemeFaults.{IsSchemeFault}

-- The rows that columns take on a coset, by the number of the point.
abbrev pub rows_of_columns : {F : Type 0} → RingOps F → (ℕ → F) → TwoAdicCoset F → List (List F) → List (List F) → List F → RowsOnCoset F
rows_of_columns base root coset main preprocessed public_values = record {
  size = coset_size coset;
  point = coset_point base root coset;
  main = λ k. row_at base (λ c. c) main (coset_point base root coset k);
  preprocessed = λ k. row_at base (λ c. c) preprocessed (coset_point base root coset k);
  public_values = public_values;
}

module _ {S F E C K T P X Y : Type 0} (scheme : SchemeOps S F E C K T P X Y) (s : S) where
  -- A commitment of one matrix stands for these columns, on the natural domain of 2 ^ degree_bits points.
  abbrev pub StandsForColumns : RingOps F → ℕ → List (List F) → K → T → Type 0
  StandsForColumns base degree_bits columns commitment prover_data = scheme.Stands s commitment prover_data (record { domain = natural_coset base degree_bits; columns = columns } ∷ [])

  -- The commitment to a trace of 2 ^ log_height rows is one that the scheme's call for a trace made of it, and stands for columns that
  -- take these rows.
  pub record IsTraceCommitment (base : RingOps F) (root : ℕ → F) (log_height degree_bits : ℕ) (trace : Trace F) (columns : List (List F)) (commitment : K) (prover_data : T) : Type 0 where
    pub made : scheme.calls.Commits s (natural_coset base degree_bits) trace.values trace.width (commitment, prover_data)
    pub stands : StandsForColumns base degree_bits columns commitment prover_data
    pub takes : TakesRows base root (natural_coset base log_height) trace.width (matrix_row trace.values trace.width) columns

  -- The data of a preprocessed trace stand for columns of its width; no data stand for none.
  abbrev pub IsPreprocessedCommitment : RingOps F → List (List F) → Option (PreprocessedProverData K T) → Type 0
  IsPreprocessedCommitment base columns None = columns ≡ []
  IsPreprocessedCommitment base columns (Some preprocessed_data) = StandsForColumns base preprocessed_data.degree_bits columns preprocessed_data.commitment preprocessed_data.prover_data × (length columns ≡ preprocessed_data.width)

  -- The commitment to the chunks of the pointwise quotient over columns, by the scheme's call for a quotient: its values on a coset,
  -- each flattened in the extension's coordinates, are cut in 2 ^ log_chunks chunks.
  pub record IsQuotientCommitment (air : AirInstance F E) (root : ℕ → F) (coordinates : E → List F) (dimension : ℕ) (is_zk : Bool) (coset : TwoAdicCoset F) (log_chunks : ℕ)
      (rows : RowsOnCoset F) (alpha : E) (chunks : List (QuotientChunk F)) (commitment : K) (prover_data : T) : Type 0 where
    pub values : List E
    pub pointwise : ArePointwiseQuotients air rows alpha values
    pub chunked : AreQuotientChunks air.base root air.ring air.inverse air.embed is_zk coset log_chunks dimension (matrix_row (flat_map coordinates values) dimension) chunks
    pub made : scheme.calls.CommitsQuotient s coset (flat_map coordinates values) dimension (2 ^ log_chunks) (commitment, prover_data)
    pub stands : scheme.Stands s commitment prover_data (map (committed_chunk air.base is_zk) chunks)

  -- The scheme refuses to commit to the pointwise quotient over columns.
  pub record IsQuotientRefusal (air : AirInstance F E) (coordinates : E → List F) (dimension : ℕ) (coset : TwoAdicCoset F) (log_chunks : ℕ) (rows : RowsOnCoset F) (alpha : E) (error : ProvingError Y) : Type 0 where
    pub values : List E
    pub pointwise : ArePointwiseQuotients air rows alpha values
    pub refused : IsSchemeFault (codes "quotient commitment") (scheme.RefusesQuotient s coset (flat_map coordinates values) dimension (2 ^ log_chunks)) error

  -- A random commitment is one that the scheme answered, and stands for as many columns as the extension has coordinates.
  pub record IsRandomCommitment (base : RingOps F) (degree_bits dimension : ℕ) (columns : List (List F)) (commitment : K) (prover_data : T) : Type 0 where
    pub made : scheme.calls.Randomizes s (natural_coset base degree_bits) (commitment, prover_data)
    pub stands : StandsForColumns base degree_bits columns commitment prover_data
    pub number : length columns ≡ dimension

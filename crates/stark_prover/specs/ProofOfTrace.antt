-- A proof of a trace.
use Rattle.std.specs.Prelude.{◌≡◌, ℕ, ◌+◌, Bool, true, false, List, map, Option, None, Some, option_map, Ok}
use Rattle.stark_support.specs.Coset.{TwoAdicCoset}
use Rattle.stark_support.specs.Scheme.{QuotientChunk, committed_chunk, natural_coset, row_at, zk_bits}
use Rattle.stark_air.specs.Declaration.{Trace}
use Rattle.stark_transcript.specs.Shape.{opens_next_row}
use Rattle.stark_security.specs.ConstraintPolynomial.{AirInstance}
use Rattle.stark_completeness.specs.TrueOpenings.{air_over}
use Rattle.stark_proof.specs.ProofView.{OpeningsView, PreprocessedView, ProofView}
use Rattle.stark_protocol.specs.Acceptance.{challenges, columns_fault, domain_fault, log_parts}
use Rattle.stark_protocol.specs.Instance.{Instance, ProtocolOps}
use Rattle.stark_protocol.specs.OpenedClaims.{claims, next_point, preprocessed_place}
use Rattle.stark_protocol.specs.Sizes.{log_parts_of, quotient_coset}
use Rattle.stark_protocol.specs.declared.preprocessed.PreprocessedProverData.{PreprocessedProverData}
use Rattle.stark_protocol.specs.declared.preprocessed.PreprocessedVerifierKey.{PreprocessedVerifierKey}
use Rattle.stark_quotient.specs.PointwiseQuotient.{RowsOnCoset}
use Rattle.stark_prover.specs.CommittedColumns.{IsPreprocessedCommitment, IsQuotientCommitment, IsRandomCommitment, IsTraceCommitment, rows_of_columns}

-- The key that corresponds to what a prover holds of a preprocessed trace.
abbrev pub key_of : {K T : Type 0} → PreprocessedProverData K T → PreprocessedVerifierKey K
key_of preprocessed_data = record { width = preprocessed_data.width; degree_bits = preprocessed_data.degree_bits; commitment = preprocessed_data.commitment }

-- a row that is opened where it is read
abbrev pub row_if : {E : Type 0} → Bool → List E → Option (List E)
row_if true row = Some row
row_if false row = None

module _ {S F E C K T P X Y : Type 0} (ops : ProtocolOps S F E C K T P X Y) (i : Instance S F C K) where
  -- The AIR over 2 ^ log_size rows.
  abbrev pub air_of : ℕ → AirInstance F E
  air_of log_size = air_over ops.opening.fields i.constraints i.periodic_columns log_size

  -- A row of columns at a point.
  abbrev pub values_at : List (List F) → E → List E
  values_at columns x = row_at ops.opening.fields.ring ops.opening.fields.embed columns x

  -- The preprocessed columns' values, where there is a key.
  abbrev pub true_preprocessed : List (List F) → E → E → PreprocessedVerifierKey K → PreprocessedView E
  true_preprocessed preprocessed zeta next_zeta key = record { local = values_at preprocessed zeta; next = row_if (opens_next_row i.preprocessed_next_columns) (values_at preprocessed next_zeta) }

  -- The values of the committed columns at zeta and at the next point, each in its place.
  abbrev pub true_openings : List (List F) → List (List F) → List (QuotientChunk F) → Option (List (List F)) → E → E → OpeningsView E
  true_openings columns preprocessed chunks random zeta next_zeta = record {
    trace_local = values_at columns zeta;
    trace_next = row_if (opens_next_row i.main_next_columns) (values_at columns next_zeta);
    preprocessed = option_map (true_preprocessed preprocessed zeta next_zeta) i.key;
    quotient_chunks = map (λ chunk. values_at (committed_chunk ops.opening.fields.base ops.opening.is_zk chunk).columns zeta) chunks;
    random = option_map (λ columns. values_at columns zeta) random;
  }

  -- The random commitment is there exactly in zero knowledge, with what it stands for.
  pub data IsRandomization (degree_bits : ℕ) : Option K → Option T → Option (List (List F)) → Type 0 where
    without_masks : ops.opening.is_zk ≡ false → IsRandomization degree_bits None None None
    with_masks : {commitment : K} {prover_data : T} {columns : List (List F)} → ops.opening.is_zk ≡ true
        → IsRandomCommitment ops.opening.scheme i.scheme ops.opening.fields.base degree_bits ops.opening.fields.dimension columns commitment prover_data → IsRandomization degree_bits (Some commitment) (Some prover_data) (Some columns)

  -- The domain of the quotient over a committed trace of 2 ^ degree_bits rows, and the rows of columns there.
  abbrev pub quotient_domain : ℕ → TwoAdicCoset F
  quotient_domain degree_bits = quotient_coset ops.opening.fields.base ops.opening.fields.generator (natural_coset ops.opening.fields.base degree_bits) (log_parts_of i.constraints i.degree_hint (zk_bits ops.opening.is_zk))

  abbrev pub quotient_rows : ℕ → List (List F) → List (List F) → RowsOnCoset F
  quotient_rows degree_bits columns preprocessed = rows_of_columns ops.opening.fields.base ops.opening.fields.root (quotient_domain degree_bits) columns preprocessed i.public_values

  -- A proof of a trace of 2 ^ height rows, made with data that stand for these preprocessed columns.
  -- The instance's key is the one that corresponds to it.
  pub record IsProofOfTrace (coordinates : E → List F) (preprocessed_data : Option (PreprocessedProverData K T)) (height : ℕ) (trace : Trace F) (preprocessed_columns : List (List F)) (p : ProofView K E P F) : Type 0 where
    pub columns : List (List F)
    pub chunks : List (QuotientChunk F)
    pub random : Option (List (List F))
    pub trace_data : T
    pub quotient_data : T
    pub random_data : Option T
    pub alpha : E
    pub zeta : E
    pub degree_bits : p.degree_bits ≡ height + zk_bits ops.opening.is_zk
    pub fitting : columns_fault ops i p ≡ None
    pub sized : domain_fault ops i p ≡ None
    pub committed : IsTraceCommitment ops.opening.scheme i.scheme ops.opening.fields.base ops.opening.fields.root height p.degree_bits trace columns p.commitments.trace trace_data
    pub preprocessed : IsPreprocessedCommitment ops.opening.scheme i.scheme ops.opening.fields.base preprocessed_columns preprocessed_data
    pub key : i.key ≡ option_map key_of preprocessed_data
    pub quotient : IsQuotientCommitment ops.opening.scheme i.scheme (air_of height) ops.opening.fields.root coordinates ops.opening.fields.dimension ops.opening.is_zk (quotient_domain p.degree_bits) (log_parts ops i p + zk_bits ops.opening.is_zk)
        (quotient_rows p.degree_bits columns preprocessed_columns) alpha chunks p.commitments.quotient_chunks quotient_data
    pub randomization : IsRandomization p.degree_bits p.commitments.random random_data random
    pub drawn : (challenges ops i p).answer ≡ Ok (alpha, zeta)
    pub opened : p.opened_values ≡ true_openings columns preprocessed_columns chunks random zeta (next_point ops.opening p.degree_bits zeta)
    pub no_alpha_work : i.constraint_bits ≡ 0 → p.alpha_pow_witness ≡ ops.opening.fields.base.zero
    pub no_work : i.ood_bits ≡ 0 → p.ood_pow_witness ≡ ops.opening.fields.base.zero
    pub complete : ops.opening.scheme.IsComplete i.scheme → ops.opening.scheme.Accepts i.scheme (claims ops.opening i.key p zeta) p.opening_proof (challenges ops i p).state (preprocessed_place ops.opening.is_zk i.key)

-- What the stages of a prover leave, of whatever trace they stand for.
use Rattle.std.specs.Prelude.{◌≡◌, ℕ, ◌+◌, ◌≤◌, Bool, List, None, Option, length, option_map}
use Rattle.stark_support.specs.Coset.{TwoAdicCoset}
use Rattle.stark_support.specs.Scheme.{HasRows, QuotientChunk, zk_bits}
use Rattle.stark_support.specs.declared.matrix.RowMajorMatrix.{RowMajorMatrix}
use Rattle.stark_support.specs.declared.periodic.PeriodicColumnShapeError.{PeriodicColumnShapeError}
use Rattle.stark_air.specs.Declaration.{Trace}
use Rattle.stark_transcript.specs.Replay.{preprocessed_fault}
use Rattle.stark_transcript.specs.declared.error.InvalidProofShapeError.{InvalidProofShapeError}
use Rattle.stark_transcript.specs.declared.error.ProvingError.{ProvingError}
use Rattle.stark_transcript.specs.declared.shape.StarkShape.{StarkShape}
use Rattle.stark_transcript.specs.declared.shape.TranscriptPhase.TheVariants.{Opened}
use Rattle.stark_transcript.specs.declared.transcript.prover.StarkProverTranscript.{StarkProverTranscript}
use Rattle.stark_proof.specs.ProofView.{ProofView, openings_view, proof_view}
use Rattle.stark_proof.specs.declared.values.Proof.{Proof}
use Rattle.stark_protocol.specs.Instance.{ProtocolOps, log_height}
use Rattle.stark_protocol.specs.ShapeFaults.{quotient_fault}
use Rattle.stark_protocol.specs.Sizes.{log_parts_of}
use Rattle.stark_quotient.specs.PointwiseQuotient.{ArePointwiseQuotients, matrix_or_empty}
use Rattle.stark_completeness.specs.RowCheck.{trace_of}
use Rattle.stark_prover.specs.BoundProof.{IsBoundProof}
use Rattle.stark_prover.specs.CommittedColumns.{IsPreprocessedCommitment, IsQuotientCommitment, IsQuotientRefusal, StandsForColumns, rows_of_columns}
use Rattle.stark_prover.specs.Heights.{IsCommittedAt, HoldsColumns}
use Rattle.stark_prover.specs.ProofOfTrace.{IsProofOfTrace, air_of, quotient_domain, quotient_rows}
use Rattle.stark_prover.specs.ProverFault.{IsReady, ProverFault, described, log_chunks_of, seeded}
use Rattle.stark_prover.specs.ProverView.{ProverView, own_instance}
use Rattle.stark_prover.specs.SchemeFaults.{IsOutOfMemoryOr}
use Rattle.stark_prover.specs.Sizes.{AreDomains, IsQuotientSizeFault, periodic_fault}
use Rattle.stark_prover.specs.declared.commit.Committed.{Committed}
use Rattle.stark_prover.specs.declared.domains.ProverDomains.{ProverDomains}
use Rattle.stark_prover.specs.declared.open.OpenedProof.{OpenedProof}
use Rattle.stark_prover.specs.declared.prover.BoundProof.{BoundProof}

-- A proof, of its parts.
abbrev pub view_of_parts : {K T E F P : Type 0} → Committed K T → BoundProof K T E F → OpenedProof E F P → ℕ → ProofView K E P F
view_of_parts committed bound opened degree_bits = record {
  commitments = record {
    trace = committed.commitment;
    quotient_chunks = bound.quotient.commitment;
    random = option_map (λ made. made.commitment) bound.random;
  };
  opened_values = openings_view opened.values;
  opening_proof = opened.argument;
  degree_bits = degree_bits;
  ood_pow_witness = opened.witness;
  alpha_pow_witness = bound.witness;
}

module _ {S F E C K T P X Y : Type 0} (ops : ProtocolOps S F E C K T P X Y) (view : ProverView S F E C K T) where
  -- ---- sizes

  -- What is wrong with the periodic columns, over 2 ^ height rows, and with the quotient's domain over 2 ^ degree_bits rows.
  abbrev pub columns_fault_at : ℕ → Option PeriodicColumnShapeError
  columns_fault_at height = periodic_fault (own_instance view).periodic_columns height

  abbrev pub domain_fault_at : ℕ → Option InvalidProofShapeError
  domain_fault_at degree_bits = quotient_fault (log_parts_of (own_instance view).constraints (own_instance view).degree_hint (zk_bits ops.opening.is_zk)) (zk_bits ops.opening.is_zk) degree_bits ops.opening.fields.adicity (ops.opening.scheme.log_max_trace_height (own_instance view).scheme)

  -- The quotient's domain is at fault, over a trace of 2 ^ height rows; and so it is where the periodic columns fit.
  abbrev pub IsDomainFault : ℕ → ProvingError Y → Type 0
  IsDomainFault height error = IsOutOfMemoryOr (IsQuotientSizeFault (domain_fault_at (height + zk_bits ops.opening.is_zk))) error

  abbrev pub IsFaultBehindColumns : ℕ → ProvingError Y → Type 0
  IsFaultBehindColumns height error = columns_fault_at height ≡ None → IsDomainFault height error

  -- The domains of a committed trace of the AIR, as cosets.
  abbrev pub AreDomainsOf : {D : Type 0} → (D → TwoAdicCoset F) → ProverDomains D → Type 0
  AreDomainsOf coset_of of = AreDomains ops.opening.fields.base ops.opening.fields.generator ops.opening.is_zk of.degree_bits (log_parts_of (own_instance view).constraints (own_instance view).degree_hint (zk_bits ops.opening.is_zk)) of.log_chunks
      (coset_of of.trace) (coset_of of.committed) (coset_of of.quotient)

  -- The transcript's shape, and the state after its seed.
  abbrev pub described_at : ℕ → StarkShape
  described_at degree_bits = described ops (own_instance view) degree_bits

  abbrev pub seeded_at : ℕ → C
  seeded_at degree_bits = seeded ops (own_instance view) degree_bits

  -- A transcript has bound the seed and nothing else; its shape has preprocessed columns exactly where there are data of some.
  pub record IsSeeded (has_data : Bool) (degree_bits : ℕ) (transcript : StarkProverTranscript C F E) : Type 0 where
    pub opened : transcript.phase ≡ Opened
    pub described : transcript.shape ≡ described_at degree_bits
    pub seeded : transcript.challenger.now ≡ seeded_at degree_bits
    pub there : preprocessed_fault transcript.shape has_data ≡ None

  -- ---- the trace's commitment

  -- The trace behind the commitment of 2 ^ degree_bits rows is ready for a quotient.
  abbrev pub IsReadyFor : ℕ → Trace F → List (List F) → List (List F) → K → T → Type 0
  IsReadyFor degree_bits trace columns preprocessed commitment prover_data = IsReady ops (own_instance view) view.coordinates view.preprocessed (log_height ops.opening.is_zk degree_bits) degree_bits trace columns preprocessed commitment prover_data

  -- A trace is committed to on domains that the scheme has room for; with the preprocessed data it has the AIR's columns.
  pub record IsCommitted {D : Type 0} (coset_of : D → TwoAdicCoset F) (of : ProverDomains D) (committed : Committed K T) : Type 0 where
    pub domains : AreDomainsOf coset_of of
    pub within : of.degree_bits ≤ ops.opening.scheme.log_max_trace_height (own_instance view).scheme
    pub public_values : length (own_instance view).public_values ≡ (own_instance view).layout.public_values
    pub same : IsCommittedAt view.preprocessed of.degree_bits
    pub trace : Trace F
    pub columns : List (List F)
    pub preprocessed : List (List F)
    pub ready : IsReadyFor of.degree_bits trace columns preprocessed committed.commitment committed.prover_data
    pub width : length columns ≡ (own_instance view).layout.main
    pub preprocessed_width : length preprocessed ≡ (own_instance view).layout.preprocessed

  -- ---- the quotient

  -- These data stand for these columns, committed to at 2 ^ degree_bits rows, under this commitment.
  abbrev pub StandsFor : ℕ → List (List F) → K → T → Type 0
  StandsFor degree_bits columns commitment prover_data = StandsForColumns ops.opening.scheme (own_instance view).scheme ops.opening.fields.base degree_bits columns commitment prover_data

  abbrev pub ArePreprocessedColumns : List (List F) → Type 0
  ArePreprocessedColumns preprocessed = IsPreprocessedCommitment ops.opening.scheme (own_instance view).scheme ops.opening.fields.base preprocessed view.preprocessed

  -- The data stand for the main columns, and the preprocessed data for the preprocessed ones.
  abbrev pub HasColumns : ℕ → T → Type 0
  HasColumns degree_bits prover_data = (columns : List (List F)) × (commitment : K) × StandsFor degree_bits columns commitment prover_data × (length columns ≡ (own_instance view).layout.main)

  abbrev pub HasPreprocessedColumns : Type 0
  HasPreprocessedColumns = HoldsColumns ops.opening.scheme (own_instance view).scheme ops.opening.fields.base view.preprocessed (own_instance view).layout.preprocessed

  -- These are the rows of the main columns, on a domain, and those of the preprocessed ones.
  abbrev pub AreTraceRows : {D : Type 0} → (D → TwoAdicCoset F) → D → T → RowMajorMatrix F → Type 0
  AreTraceRows coset_of domain prover_data rows = (degree_bits : ℕ) (columns : List (List F)) (commitment : K) → StandsFor degree_bits columns commitment prover_data
      → HasRows ops.opening.fields.base ops.opening.fields.root (coset_of domain) columns rows.values.items rows.width

  abbrev pub ArePreprocessedRows : {D : Type 0} → (D → TwoAdicCoset F) → D → Option (RowMajorMatrix F) → Type 0
  ArePreprocessedRows coset_of domain rows = (preprocessed : List (List F)) → ArePreprocessedColumns preprocessed
      → HasRows ops.opening.fields.base ops.opening.fields.root (coset_of domain) preprocessed (matrix_or_empty (option_map trace_of rows)).values (matrix_or_empty (option_map trace_of rows)).width

  -- These are the quotient's values on its domain, by the columns' rows.
  abbrev pub AreQuotients : {D : Type 0} → (D → TwoAdicCoset F) → ProverDomains D → T → E → List E → Type 0
  AreQuotients coset_of of prover_data alpha values = (columns preprocessed : List (List F)) (commitment : K) → StandsFor of.degree_bits columns commitment prover_data → ArePreprocessedColumns preprocessed
      → ArePointwiseQuotients (air_of ops (own_instance view) (coset_of of.trace).log_size) (rows_of_columns ops.opening.fields.base ops.opening.fields.root (coset_of of.quotient) columns preprocessed (own_instance view).public_values) alpha values

  module _ (degree_bits : ℕ) (committed : Committed K T) where
    -- Whatever trace this commitment stands for,
    abbrev pub OfEachTrace : (Trace F → List (List F) → List (List F) → Type 0) → Type 0
    OfEachTrace Holds = (trace : Trace F) (columns preprocessed : List (List F)) → IsReadyFor degree_bits trace columns preprocessed committed.commitment committed.prover_data → Holds trace columns preprocessed

    -- the quotient over its columns is committed to,
    abbrev pub IsQuotientOf : E → Committed K T → Type 0
    IsQuotientOf alpha made = OfEachTrace (λ trace columns preprocessed.
        (chunks : List (QuotientChunk F)) × IsQuotientCommitment ops.opening.scheme (own_instance view).scheme (air_of ops (own_instance view) (log_height ops.opening.is_zk degree_bits)) ops.opening.fields.root view.coordinates ops.opening.fields.dimension ops.opening.is_zk
        (quotient_domain ops (own_instance view) degree_bits) (log_chunks_of ops (own_instance view) degree_bits) (quotient_rows ops (own_instance view) degree_bits columns preprocessed) alpha chunks made.commitment made.prover_data)

    -- or the scheme refuses that;
    abbrev pub IsRefusalOf : E → ProvingError Y → Type 0
    IsRefusalOf alpha error = OfEachTrace (λ trace columns preprocessed.
        IsOutOfMemoryOr (IsQuotientRefusal ops.opening.scheme (own_instance view).scheme (air_of ops (own_instance view) (log_height ops.opening.is_zk degree_bits)) view.coordinates ops.opening.fields.dimension
        (quotient_domain ops (own_instance view) degree_bits) (log_chunks_of ops (own_instance view) degree_bits) (quotient_rows ops (own_instance view) degree_bits columns preprocessed) alpha) error)

    -- so much is bound of its proof,
    abbrev pub IsBound : BoundProof K T E F → C → Type 0
    IsBound bound state = OfEachTrace (λ trace columns preprocessed.
        IsBoundProof ops (own_instance view) view.coordinates view.preprocessed (log_height ops.opening.is_zk degree_bits) degree_bits trace preprocessed committed.commitment committed.prover_data bound.alpha bound.witness state
        bound.quotient.commitment bound.quotient.prover_data (option_map (λ made. made.commitment) bound.random) (option_map (λ made. made.prover_data) bound.random))

    -- this is a proof of it, and what is opened makes one,
    abbrev pub IsViewOf : ProofView K E P F → Type 0
    IsViewOf p = OfEachTrace (λ trace columns preprocessed. IsProofOfTrace ops (own_instance view) view.coordinates view.preprocessed (log_height ops.opening.is_zk degree_bits) trace preprocessed p)

    abbrev pub IsProof : Proof K E P F → Type 0
    IsProof proof = IsViewOf (proof_view proof)

    abbrev pub IsOpened : BoundProof K T E F → OpenedProof E F P → Type 0
    IsOpened bound opened = IsViewOf (view_of_parts committed bound opened degree_bits)

    -- or this is why there is none.
    abbrev pub IsFault : ProvingError Y → Type 0
    IsFault error = OfEachTrace (λ trace columns preprocessed.
        IsOutOfMemoryOr (ProverFault ops (own_instance view) view.coordinates view.preprocessed (log_height ops.opening.is_zk degree_bits) degree_bits trace) error)

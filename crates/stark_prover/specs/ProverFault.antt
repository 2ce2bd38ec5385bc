-- Why there is no proof of a trace: the first cause, in the order of the work.
use Rattle.std.specs.Prelude.{◌≡◌, ℕ, ◌+◌, ◌^◌, Bool, false, true, List, codes, map, length, Option, None, option_map, Ok}
use Rattle.stark_support.specs.Periodic.{first_fault}
use Rattle.stark_support.specs.Scheme.{QuotientChunk, natural_coset, zk_bits}
use Rattle.stark_support.specs.Seed.{shape_seed}
use Rattle.stark_support.specs.Sponge.{observed_bytes, replay}
use Rattle.stark_support.specs.declared.periodic.PeriodicColumnShapeError.{PeriodicColumnShapeError}
use Rattle.stark_air.specs.Declaration.{Trace}
use Rattle.stark_transcript.specs.Replay.{PhaseOutcome, constraint_events, constraint_outcome, ood_events, prover_constraint_outcome, prover_ood_outcome, succeeds}
use Rattle.stark_transcript.specs.Shape.{opens_next_row, shape_numbers, shape_of}
use Rattle.stark_transcript.specs.declared.error.InvalidProofShapeError.{InvalidProofShapeError}
use Rattle.stark_transcript.specs.declared.error.ProvingError.{ProvingError}
use Rattle.stark_transcript.specs.declared.shape.GrindExhausted.{GrindExhausted}
use Rattle.stark_transcript.specs.declared.shape.StarkShape.{StarkShape}
use Rattle.stark_transcript.specs.declared.shape.TranscriptPhase.TheVariants.{Bound}
use Rattle.stark_protocol.specs.Instance.{Instance, ProtocolOps, log_height}
use Rattle.stark_protocol.specs.OpenedClaims.{next_point}
use Rattle.stark_protocol.specs.ShapeFaults.{quotient_fault, width_in_force}
use Rattle.stark_protocol.specs.Sizes.{log_parts_of}
use Rattle.stark_protocol.specs.declared.preprocessed.PreprocessedProverData.{PreprocessedProverData}
use Rattle.stark_prover.specs.CommittedColumns.{IsPreprocessedCommitment, IsQuotientCommitment, IsQuotientRefusal, IsTraceCommitment}
use Rattle.stark_prover.specs.ProofOfTrace.{IsRandomization, air_of, quotient_domain, quotient_rows}
use Rattle.stark_prover.specs.Rounds.{place_of, points_of, rounds_of}
use Rattle.stark_prover.specs.SchemeFaults.{IsSchemeFault}
use Rattle.stark_prover.specs.Sizes.{SizesFault}

-- The transcript's shape, with so many chunks of the quotient.
abbrev pub shape_with : {S F C K : Type 0} → Bool → Instance S F C K → ℕ → ℕ → StarkShape
shape_with is_zk i degree_bits log_chunks =
    shape_of i.layout i.main_next_columns i.preprocessed_next_columns (width_in_force i.key i.layout.preprocessed) degree_bits (log_height is_zk degree_bits) (2 ^ log_chunks) is_zk i.ood_bits i.constraint_bits

module _ {S F E C K T P X Y : Type 0} (ops : ProtocolOps S F E C K T P X Y) (i : Instance S F C K) (degree_bits : ℕ) where
  -- the logarithm of the number of the quotient's chunks
  abbrev pub log_chunks_of : ℕ
  log_chunks_of = log_parts_of i.constraints i.degree_hint (zk_bits ops.opening.is_zk) + zk_bits ops.opening.is_zk

  -- The transcript's shape, and the state after its seed.
  abbrev pub described : StarkShape
  described = shape_with ops.opening.is_zk i degree_bits log_chunks_of

  abbrev pub seeded : C
  seeded = observed_bytes ops.sponge.observe_element ops.sponge.from_byte (shape_seed 1 ops.opening.fields.dimension (shape_numbers described)) i.first_state

  -- How the prover draws alpha: behind the work before it, where some is asked for.
  abbrev pub alpha_outcome : K → PhaseOutcome C (E × Option F) GrindExhausted
  alpha_outcome commitment = prover_constraint_outcome ops.sponge described commitment (option_map (λ key. key.commitment) i.key) i.public_values seeded

module _ {S F E C K T P X Y : Type 0} (ops : ProtocolOps S F E C K T P X Y) (i : Instance S F C K) (coordinates : E → List F) (preprocessed_data : Option (PreprocessedProverData K T)) (height degree_bits : ℕ) (trace : Trace F) where
  -- what is wrong with the periodic columns, and with the quotient's domain
  abbrev pub columns_fault : Option PeriodicColumnShapeError
  columns_fault = first_fault (2 ^ height) 0 (map (λ column. length column) i.periodic_columns)

  abbrev pub domain_fault : Option InvalidProofShapeError
  domain_fault = quotient_fault (log_parts_of i.constraints i.degree_hint (zk_bits ops.opening.is_zk)) (zk_bits ops.opening.is_zk) degree_bits ops.opening.fields.adicity (ops.opening.scheme.log_max_trace_height i.scheme)

  -- The sizes fit, and the trace is committed to.
  pub record IsReady (columns preprocessed_columns : List (List F)) (commitment : K) (prover_data : T) : Type 0 where
    pub fitting : columns_fault ≡ None
    pub clear : domain_fault ≡ None
    pub committed : IsTraceCommitment ops.opening.scheme i.scheme ops.opening.fields.base ops.opening.fields.root height degree_bits trace columns commitment prover_data
    pub preprocessed : IsPreprocessedCommitment ops.opening.scheme i.scheme ops.opening.fields.base preprocessed_columns preprocessed_data

  -- Besides, alpha is drawn, which leaves this state; a verifier with this witness draws the same.
  pub record IsBound (columns preprocessed : List (List F)) (commitment : K) (prover_data : T) (alpha : E) (alpha_witness : F) (state : C) : Type 0 where
    pub ready : IsReady columns preprocessed commitment prover_data
    pub witness : Option F
    pub answered : (alpha_outcome ops i degree_bits commitment).answer ≡ Ok (alpha, witness)
    pub left : state ≡ (alpha_outcome ops i degree_bits commitment).state
    pub drawn : constraint_outcome ops.sponge (described ops i degree_bits) commitment (option_map (λ key. key.commitment) i.key) i.public_values alpha_witness (seeded ops i degree_bits) ≡ succeeds alpha state Bound
    pub no_work : i.constraint_bits ≡ 0 → alpha_witness ≡ ops.opening.fields.base.zero

  -- Besides, the quotient over the columns is committed to.
  pub record HasQuotient (columns preprocessed : List (List F)) (commitment : K) (prover_data : T) (alpha : E) (alpha_witness : F) (state : C) (chunks : List (QuotientChunk F)) (quotient : K) (quotient_data : T) : Type 0 where
    pub bound : IsBound columns preprocessed commitment prover_data alpha alpha_witness state
    pub quotient_committed : IsQuotientCommitment ops.opening.scheme i.scheme (air_of ops i height) ops.opening.fields.root coordinates ops.opening.fields.dimension ops.opening.is_zk (quotient_domain ops i degree_bits) (log_chunks_of ops i degree_bits)
        (quotient_rows ops i degree_bits columns preprocessed) alpha chunks quotient quotient_data

  -- The rounds of the opening argument.
  abbrev pub opening_rounds : E → Option T → T → T → List (T × List (List E))
  opening_rounds zeta random_data prover_data quotient_data =
      let next_zeta = next_point ops.opening degree_bits zeta in
      rounds_of zeta (points_of zeta next_zeta (opens_next_row i.main_next_columns)) (points_of zeta next_zeta (opens_next_row i.preprocessed_next_columns)) (2 ^ (log_chunks_of ops i degree_bits)) random_data prover_data quotient_data (option_map (λ of_data. of_data.prover_data) preprocessed_data)

  -- The first cause: the sizes; the scheme, which refuses the trace; the work before alpha, of which no element is a witness; the
  -- scheme, which refuses the quotient or the randomization; the work before zeta, of which no element is a witness; the scheme,
  -- which refuses to open. Randomization is asked for in zero knowledge alone. Each comes where what is before it was done.
  pub data ProverFault : ProvingError Y → Type 0 where
    in_sizes : {error : ProvingError Y} → SizesFault columns_fault domain_fault error → ProverFault error
    in_trace : {error : ProvingError Y} → columns_fault ≡ None → domain_fault ≡ None
        → IsSchemeFault (codes "trace commitment") (ops.opening.scheme.RefusesCommit i.scheme (natural_coset ops.opening.fields.base degree_bits) trace.values trace.width) error → ProverFault error
    in_alpha_work : {columns preprocessed : List (List F)} {commitment : K} {prover_data : T} → IsReady columns preprocessed commitment prover_data
        → ((witness : F) → ops.sponge.passes (replay ops.sponge (constraint_events commitment (option_map (λ key. key.commitment) i.key) i.public_values) (seeded ops i degree_bits)) i.constraint_bits witness ≡ false)
        → ProverFault (ProvingError.GrindExhausted i.constraint_bits)
    in_quotient : {error : ProvingError Y} {columns preprocessed : List (List F)} {commitment : K} {prover_data : T} {alpha : E} {alpha_witness : F} {state : C} → IsBound columns preprocessed commitment prover_data alpha alpha_witness state
        → IsQuotientRefusal ops.opening.scheme i.scheme (air_of ops i height) coordinates ops.opening.fields.dimension (quotient_domain ops i degree_bits) (log_chunks_of ops i degree_bits) (quotient_rows ops i degree_bits columns preprocessed) alpha error → ProverFault error
    in_randomization : {error : ProvingError Y} {columns preprocessed : List (List F)} {commitment : K} {prover_data : T} {alpha : E} {alpha_witness : F} {state : C} {chunks : List (QuotientChunk F)} {quotient : K} {quotient_data : T}
        → HasQuotient columns preprocessed commitment prover_data alpha alpha_witness state chunks quotient quotient_data
        → ops.opening.is_zk ≡ true → IsSchemeFault (codes "randomization commitment") (ops.opening.scheme.RefusesRandomization i.scheme (natural_coset ops.opening.fields.base degree_bits)) error → ProverFault error
    in_work : {columns preprocessed : List (List F)} {commitment : K} {prover_data : T} {alpha : E} {alpha_witness : F} {state : C} {chunks : List (QuotientChunk F)} {quotient : K} {quotient_data : T}
        {random : Option K} {random_data : Option T} {random_columns : Option (List (List F))}
        → HasQuotient columns preprocessed commitment prover_data alpha alpha_witness state chunks quotient quotient_data → IsRandomization ops i degree_bits random random_data random_columns
        → ((witness : F) → ops.sponge.passes (replay ops.sponge (ood_events quotient random) state) i.ood_bits witness ≡ false) → ProverFault (ProvingError.GrindExhausted i.ood_bits)
    in_opening : {error : ProvingError Y} {columns preprocessed : List (List F)} {commitment : K} {prover_data : T} {alpha : E} {alpha_witness : F} {state : C} {chunks : List (QuotientChunk F)} {quotient : K} {quotient_data : T}
        {random : Option K} {random_data : Option T} {random_columns : Option (List (List F))} {zeta : E} {witness : Option F}
        → HasQuotient columns preprocessed commitment prover_data alpha alpha_witness state chunks quotient quotient_data → IsRandomization ops i degree_bits random random_data random_columns
        → (prover_ood_outcome ops.sponge (described ops i degree_bits) quotient random state).answer ≡ Ok (zeta, witness)
        → IsSchemeFault (codes "opening") (ops.opening.scheme.RefusesOpening i.scheme (opening_rounds zeta random_data prover_data quotient_data) (prover_ood_outcome ops.sponge (described ops i degree_bits) quotient random state).state
        (place_of ops.opening.is_zk preprocessed_data)) error → ProverFault error

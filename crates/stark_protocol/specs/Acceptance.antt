-- When a proof is accepted.
use Rattle.std.specs.Prelude.{◌≡◌, ℕ, ◌+◌, ◌^◌, Bool, List, [], map, length, replicate, Option, None, Some, option_map, unwrap_or, Ok}
use Rattle.std.specs.Option.{option_or}
use Rattle.stark_support.specs.Powers.{power}
use Rattle.stark_support.specs.Subgroup.{subgroup_of}
use Rattle.stark_support.specs.Recomposition.{recomposition}
use Rattle.stark_support.specs.Periodic.{first_fault, periodic_value}
use Rattle.stark_support.specs.declared.periodic.PeriodicColumnShapeError.{PeriodicColumnShapeError}
use Rattle.stark_support.specs.Scheme.{natural_coset, zk_bits}
use Rattle.stark_support.specs.Sponge.{observed_bytes}
use Rattle.stark_support.specs.Seed.{shape_seed}
use Rattle.stark_transcript.specs.Shape.{opens_next_row, shape_numbers, shape_of}
use Rattle.stark_transcript.specs.Replay.{PhaseOutcome}
use Rattle.stark_transcript.specs.declared.shape.StarkShape.{StarkShape}
use Rattle.stark_transcript.specs.declared.shape.StarkTranscriptFailure.{StarkTranscriptFailure}
use Rattle.stark_transcript.specs.declared.error.InvalidProofShapeError.{InvalidProofShapeError}
use Rattle.stark_transcript.specs.declared.error.VerificationError.{VerificationError}
use Rattle.stark_transcript.specs.declared.error.VerificationError.TheVariants.{InvalidProofShape}
use Rattle.stark_protocol.specs.Challenges.{challenges_outcome}
use Rattle.stark_protocol.specs.Equation.{EquationHolds, OpenedRows}
use Rattle.stark_support.specs.FieldPair.{FieldsOps}
use Rattle.stark_protocol.specs.Instance.{Instance, ProtocolOps, log_height, trace_coset}
use Rattle.stark_protocol.specs.OpenedClaims.{OpeningsHold}
use Rattle.stark_proof.specs.ProofView.{OpeningsView, PreprocessedView, ProofView}
use Rattle.stark_protocol.specs.ShapeFaults.{degree_fault, opened_fault, preprocessed_fault, quotient_fault, randomization_fault, width_in_force}
use Rattle.stark_protocol.specs.Sizes.{chunk_shifts, log_parts_of, quotient_coset}

-- ---- the opened rows

-- The preprocessed rows, none where they aren't opened; a next row that isn't opened is the filler.
abbrev pub preprocessed_local : {E : Type 0} → Option (PreprocessedView E) → List E
preprocessed_local None = []
preprocessed_local (Some rows) = rows.local

abbrev pub preprocessed_next : {E : Type 0} → List E → Option (PreprocessedView E) → List E
preprocessed_next filler None = []
preprocessed_next filler (Some rows) = unwrap_or rows.next filler

-- The leaves' values, of an AIR of these widths: the opened rows, zeros for the next rows that aren't opened, the periodic
-- columns' values and the public values.
abbrev pub rows_of : {F E : Type 0} → E → ℕ → ℕ → OpeningsView E → List E → List F → OpenedRows F E
rows_of zero width preprocessed_width opened periodic public_values = record {
  local = opened.trace_local;
  next = unwrap_or opened.trace_next (replicate width zero);
  preprocessed_local = preprocessed_local opened.preprocessed;
  preprocessed_next = preprocessed_next (replicate preprocessed_width zero) opened.preprocessed;
  periodic = periodic;
  public_values = public_values;
}

-- an error of the proof's shape, among a verifier's
abbrev pub of_shape : {X : Type 0} → Option InvalidProofShapeError → Option (VerificationError X)
of_shape fault = option_map (λ error. InvalidProofShape error) fault

module _ {F E : Type 0} (fields : FieldsOps F E) where
  -- A point of H, the group of 2 ^ log_height roots of one.
  abbrev pub IsPointOfH : ℕ → E → Type 0
  IsPointOfH log_height zeta = (i : ℕ) × (zeta ≡ power fields.ring (fields.embed (fields.root log_height)) i)

  -- The periodic columns' values at zeta, beside 2 ^ log_height rows.
  abbrev pub periodic_values : List (List F) → ℕ → E → List E
  periodic_values columns log_height zeta =
      map (λ column. periodic_value fields.base fields.base_inverse (fields.root log_height) (2 ^ log_height) fields.ring fields.embed column zeta) columns

  -- The quotient at zeta: its chunks stand on the parts of a coset of as many times 2 ^ log_height points as there are chunks.
  abbrev pub quotient_value : ℕ → ℕ → Bool → List (List E) → E → E
  quotient_value degree_bits log_parts is_zk chunks zeta =
      recomposition fields.ring fields.ring (λ c. c) fields.inverse (2 ^ log_height is_zk degree_bits) fields.basis
      (chunk_shifts fields.base fields.root fields.embed (quotient_coset fields.base fields.generator (natural_coset fields.base degree_bits) log_parts) (log_parts + zk_bits is_zk)) chunks zeta

module _ {S F E C K T P X Y : Type 0} (ops : ProtocolOps S F E C K T P X Y) (i : Instance S F C K) (p : ProofView K E P F) where
  -- The quotient's domain is 2 ^ log_parts times as large as the committed trace's.
  abbrev pub log_parts : ℕ
  log_parts = log_parts_of i.constraints i.degree_hint (zk_bits ops.opening.is_zk)

  -- ---- the proof's shape: the first fault, if there is one

  abbrev pub height_fault : Option InvalidProofShapeError
  height_fault = degree_fault None p.degree_bits (zk_bits ops.opening.is_zk) (ops.opening.scheme.log_min_trace_height i.scheme) (ops.opening.scheme.log_max_trace_height i.scheme)

  abbrev pub key_fault : Option InvalidProofShapeError
  key_fault = preprocessed_fault i.key i.layout.preprocessed (opens_next_row i.preprocessed_next_columns) p.degree_bits p.opened_values.preprocessed

  abbrev pub domain_fault : Option InvalidProofShapeError
  domain_fault = quotient_fault log_parts (zk_bits ops.opening.is_zk) p.degree_bits ops.opening.fields.adicity (ops.opening.scheme.log_max_trace_height i.scheme)

  abbrev pub values_fault : Option InvalidProofShapeError
  values_fault = opened_fault i.layout.public_values (length i.public_values) (opens_next_row i.main_next_columns) i.layout.main (2 ^ (log_parts + zk_bits ops.opening.is_zk)) ops.opening.fields.dimension p.opened_values
      i.constraint_bits (ops.opening.fields.same p.alpha_pow_witness ops.opening.fields.base.zero) i.ood_bits (ops.opening.fields.same p.ood_pow_witness ops.opening.fields.base.zero)

  abbrev pub shape_fault : Option (VerificationError X)
  shape_fault =
      option_or (of_shape height_fault)
      (option_or (of_shape key_fault)
      (option_or (of_shape domain_fault)
      (option_or (randomization_fault ops.opening.is_zk p.commitments.random p.opened_values.random)
      (of_shape values_fault))))

  -- ---- the challenges

  abbrev pub described : StarkShape
  described = shape_of i.layout i.main_next_columns i.preprocessed_next_columns (width_in_force i.key i.layout.preprocessed) p.degree_bits (log_height ops.opening.is_zk p.degree_bits)
      (2 ^ (log_parts + zk_bits ops.opening.is_zk)) ops.opening.is_zk i.ood_bits i.constraint_bits

  -- the state after the seed
  abbrev pub seeded : C
  seeded = observed_bytes ops.sponge.observe_element ops.sponge.from_byte (shape_seed 1 ops.opening.fields.dimension (shape_numbers described)) i.first_state

  -- Alpha and zeta, and the state at the opening argument's beginning.
  abbrev pub challenges : PhaseOutcome C (E × E) StarkTranscriptFailure
  challenges = challenges_outcome ops.sponge described p.commitments.trace (option_map (λ key. key.commitment) i.key) i.public_values p.alpha_pow_witness
      p.commitments.quotient_chunks p.commitments.random p.ood_pow_witness seeded

  -- ---- the equation

  -- The folded constraints over the opened values are Z_H(zeta) times the quotient that the chunks recompose to.
  pub record IsBalanced (alpha zeta : E) : Type 0 where
    pub equation : EquationHolds ops.opening.fields.base ops.opening.fields.ring ops.opening.fields.embed
        (subgroup_of ops.opening.fields.inverse ops.opening.fields.embed ops.opening.fields.root (trace_coset ops.opening.fields.base ops.opening.is_zk p.degree_bits)) i.constraints
        (rows_of ops.opening.fields.ring.zero i.layout.main i.layout.preprocessed p.opened_values (periodic_values ops.opening.fields i.periodic_columns (log_height ops.opening.is_zk p.degree_bits) zeta) i.public_values)
        zeta alpha (quotient_value ops.opening.fields p.degree_bits log_parts ops.opening.is_zk p.opened_values.quotient_chunks zeta)

  -- ---- acceptance

  -- The fault of the first periodic column that doesn't fit the trace's rows.
  abbrev pub columns_fault : Option PeriodicColumnShapeError
  columns_fault = first_fault (2 ^ log_height ops.opening.is_zk p.degree_bits) 0 (map (λ column. length column) i.periodic_columns)

  -- The replay draws both challenges, and the work before each passes; zeta is no point of H, each periodic column's length
  -- is a power of two from 1 to the number of rows, and the scheme accepts the claims.
  pub record RunHolds (alpha zeta : E) : Type 0 where
    pub drawn : challenges.answer ≡ Ok (alpha, zeta)
    pub outside : IsPointOfH ops.opening.fields (log_height ops.opening.is_zk p.degree_bits) zeta → ⊥
    pub fitting : columns_fault ≡ None
    pub opened : OpeningsHold ops.opening i.scheme i.key p zeta challenges.state

  -- The proof is accepted: its shape has no fault, the run holds, and the equation does.
  pub record Accepted : Type 0 where
    pub alpha : E
    pub zeta : E
    pub shape : shape_fault ≡ None
    pub run : RunHolds alpha zeta
    pub balanced : IsBalanced alpha zeta

-- What an accepted proof says of the columns that its commitments list.
use Rattle.std.specs.Prelude.{◌≡◌, ◌⊎◌, ℕ, ◌+◌, ◌^◌, List, [], ◌∷◌, length, map, Option, None, Some, Ok}
use Rattle.std.specs.List.{AllByRecursion}
use Rattle.stark_support.specs.Ring.{RingOps}
use Rattle.stark_support.specs.Polynomial.{HasDegreeBelow}
use Rattle.stark_support.specs.RecompositionPolynomial.{ChunksFit}
use Rattle.stark_support.specs.Scheme.{TakesRows, matrix_row, natural_coset, zk_bits}
use Rattle.stark_air.specs.Declaration.{Trace}
use Rattle.stark_proof.specs.ProofView.{ProofView}
use Rattle.stark_security.specs.ConstraintPolynomial.{Columns, height}
use Rattle.stark_security.specs.BadValues.{ColumnsFit, IsBadAlpha, IsBadZeta, Satisfies}
use Rattle.stark_security.specs.DegreeBound.{alpha_bound, zeta_bound}
use Rattle.stark_security.specs.ErrorBound.{FewBadDraws}
use Rattle.stark_protocol.specs.Acceptance.{challenges, log_parts}
use Rattle.stark_protocol.specs.Instance.{Instance, ProtocolOps}
use Rattle.stark_verifier.specs.SoundAcceptance.{BreakingNeedsBadChallenges, proved_air, proved_shifts}
use Rattle.stark_verifier.specs.TakenValues.{embedded_polynomials}
use Rattle.stark_protocol.specs.declared.preprocessed.PreprocessedVerifierKey.{PreprocessedVerifierKey}
use Rattle.stark_answers.specs.CheckedAir.{CheckedAir}
use Rattle.stark_answers.specs.Verify.{IsKey, instance_of}

-- A commitment in the clear: for each matrix its columns, each as a list of coefficients.
abbrev pub Listed : Type 0 → Type 0
Listed F = List (List (List F))

-- the columns of a commitment to one matrix
abbrev pub only_matrix : {F : Type 0} → Listed F → List (List F)
only_matrix [] = []
only_matrix (columns ∷ more) = columns

-- the columns that a key's commitment lists, none without a key
abbrev pub key_columns : {F : Type 0} → Option (PreprocessedVerifierKey (Listed F)) → List (List F)
key_columns None = []
key_columns (Some key) = only_matrix key.commitment

-- The interpolation of the declared rows: a polynomial of degree below 2 ^ log_height for each column, with the declared rows
-- as values on the group of 2 ^ log_height points. Nothing declared has no columns.
abbrev pub InterpolateDeclared : {F : Type 0} → RingOps F → (ℕ → F) → ℕ → Option (Trace F) → List (List F) → Type 0
InterpolateDeclared field root log_height None columns = columns ≡ []
InterpolateDeclared field root log_height (Some trace) columns =
    TakesRows field root (natural_coset field log_height) trace.width (matrix_row trace.values trace.width) columns × AllByRecursion (HasDegreeBelow (2 ^ log_height)) columns

module _ {S F E C T P X Y : Type 0} (ops : ProtocolOps S F E C (Listed F) T P X Y) (i : Instance S F C (Listed F)) (proof : ProofView (Listed F) E P F) where
  -- The trace's columns as the proof's commitment lists them, beside preprocessed ones and the public values.
  abbrev pub committed_columns : List (List F) → Columns F E
  committed_columns preprocessed = record {
    main = embedded_polynomials ops.opening.fields.embed (only_matrix proof.commitments.trace);
    preprocessed = embedded_polynomials ops.opening.fields.embed preprocessed;
    public_values = i.public_values;
  }

  -- The quotient's chunks as the proof's commitment lists them.
  abbrev pub committed_chunks : List (List (List E))
  committed_chunks = map (embedded_polynomials ops.opening.fields.embed) proof.commitments.quotient_chunks

  -- how many chunks the quotient has
  abbrev pub chunk_count : ℕ
  chunk_count = 2 ^ (log_parts ops i proof + zk_bits ops.opening.is_zk)

  -- With alpha and zeta as the replay draws them: the trace's columns, beside the interpolation of the declared preprocessed
  -- ones, break no constraint on H, or alpha is bad for these columns and the public values, or zeta is bad for these, alpha and
  -- the chunks. The key lists such an interpolation, the trace's commitment is to one matrix, all degrees are below the committed
  -- height; and at most these draws are bad for any columns and chunks of these degrees: one alpha less than there are
  -- constraints, and as many zetas as the equation's polynomial can have roots.
  pub record ColumnsAreSound (log_height : ℕ) (declared : Option (Trace F)) : Type 0 where
    pub alpha : E
    pub zeta : E
    pub drawn : (challenges ops i proof).answer ≡ Ok (alpha, zeta)
    pub interpolated : InterpolateDeclared ops.opening.fields.base ops.opening.fields.root log_height declared (key_columns i.key)
    pub one_matrix : proof.commitments.trace ≡ only_matrix proof.commitments.trace ∷ []
    pub chunks_fit : ChunksFit (2 ^ proof.degree_bits) committed_chunks
    pub columns_fit : (preprocessed : List (List F)) → InterpolateDeclared ops.opening.fields.base ops.opening.fields.root log_height declared preprocessed
        → ColumnsFit (2 ^ proof.degree_bits) (committed_columns preprocessed)
    pub sound : (preprocessed : List (List F)) → InterpolateDeclared ops.opening.fields.base ops.opening.fields.root log_height declared preprocessed
        → Satisfies (proved_air ops i proof) (committed_columns preprocessed)
        ⊎ (IsBadAlpha (proved_air ops i proof) (committed_columns preprocessed) alpha
        ⊎ IsBadZeta (proved_air ops i proof) (committed_columns preprocessed) (proved_shifts ops i proof) committed_chunks alpha zeta)
    pub shifts_counted : length (proved_shifts ops i proof) ≡ chunk_count
    pub few : FewBadDraws (proved_air ops i proof) (2 ^ proof.degree_bits) chunk_count (alpha_bound i.constraints) (zeta_bound (2 ^ proof.degree_bits) (height (proved_air ops i proof)) chunk_count i.constraints)

module _ {S F E C T P X Y : Type 0} (ops : ProtocolOps S F E C (Listed F) T P X Y) (log_rows : ℕ) where
  -- It is so of a proof for an AIR, with the scheme and the AIR's key, whose preprocessed columns have 2 ^ log_rows rows.
  unfoldable pub IsSoundWithKey : S → C → CheckedAir F → ProofView (Listed F) E P F → List F → ℕ → ℕ → Type 0
  IsSoundWithKey scheme first_state air proof public_values ood_bits alpha_bits = (key : Option (PreprocessedVerifierKey (Listed F))) × IsKey ops log_rows scheme air.preprocessed_trace key
      × ColumnsAreSound ops (instance_of air scheme first_state ood_bits alpha_bits public_values key) proof log_rows air.preprocessed_trace

module _ {S F E C K T P X Y : Type 0} (ops : ProtocolOps S F E C K T P X Y) (log_rows : ℕ) where
  -- Whatever columns and chunks take a proof's opened values, with the scheme and the AIR's key: where they break a constraint, alpha is
  -- bad for them or zeta is. That there are some is what a scheme promises.
  unfoldable pub IsSoundOfTaken : S → C → CheckedAir F → ProofView K E P F → List F → ℕ → ℕ → Type 0
  IsSoundOfTaken scheme first_state air proof public_values ood_bits alpha_bits = (key : Option (PreprocessedVerifierKey K)) × IsKey ops log_rows scheme air.preprocessed_trace key
      × BreakingNeedsBadChallenges ops (instance_of air scheme first_state ood_bits alpha_bits public_values key) proof

-- When a proof of a satisfying trace is accepted.
use Rattle.std.specs.Prelude.{◌≡◌, ℕ, ◌+◌, false, List, Option, None, Some, Ok}
use Rattle.stark_support.specs.Scheme.{matrix_row, zk_bits}
use Rattle.stark_air.specs.Declaration.{Trace}
use Rattle.stark_completeness.specs.RowSatisfaction.{HoldsInEachRow}
use Rattle.stark_parts.specs.SizingLaw.{HasSmallBound}
use Rattle.stark_proof.specs.ProofView.{ProofView}
use Rattle.stark_protocol.specs.Acceptance.{Accepted, IsPointOfH, challenges}
use Rattle.stark_support.specs.SchemeClauses.{OpeningOps}
use Rattle.stark_protocol.specs.Instance.{Instance, ProtocolOps, log_height}
use Rattle.stark_protocol.specs.Preprocessing.{IsSetUp, has_columns}
use Rattle.stark_protocol.specs.Sizes.{log_parts_of}
use Rattle.stark_protocol.specs.declared.preprocessed.PreprocessedProverData.{PreprocessedProverData}
use Rattle.stark_protocol.specs.declared.preprocessed.PreprocessedVerifierKey.{PreprocessedVerifierKey}
use Rattle.stark_quotient.specs.PointwiseQuotient.{matrix_or_empty}
use Rattle.stark_prover.specs.ProofOfTrace.{air_of}

-- What a prover holds and a verifier's key are the two parts of one set-up of the declared preprocessed trace, of 2 ^ height
-- rows; there is neither where it has no columns.
abbrev pub AreSetUp : {S F E C K T P X Y : Type 0} → OpeningOps S F E C K T P X Y → S → ℕ → Option (Trace F) → Option (PreprocessedProverData K T) → Option (PreprocessedVerifierKey K) → Type 0
AreSetUp ops s height declared None None = has_columns declared ≡ false
AreSetUp ops s height declared None (Some key) = ⊥
AreSetUp ops s height declared (Some prover) None = ⊥
AreSetUp {F = F} ops s height declared (Some prover) (Some key) = (trace : Trace F) × (declared ≡ Some trace) × IsSetUp ops.scheme s ops.fields.base ops.fields.root ops.is_zk height trace prover key

-- The rows of the declared preprocessed trace.
abbrev pub declared_row : {F : Type 0} → Option (Trace F) → ℕ → List F
declared_row declared = matrix_row (matrix_or_empty declared).values (matrix_or_empty declared).width

module _ {S F E C K T P X Y : Type 0} (ops : ProtocolOps S F E C K T P X Y) (i : Instance S F C K) where
  -- Each constraint is zero in each of the trace's 2 ^ height rows, beside the row after it, round the end, and the declared
  -- preprocessed rows.
  abbrev pub IsSatisfied : ℕ → Option (Trace F) → Trace F → Type 0
  IsSatisfied height declared trace = HoldsInEachRow (air_of ops i height) (record { main = matrix_row trace.values trace.width; preprocessed = declared_row declared; public_values = i.public_values })

  -- The constraints' degrees, over columns committed at 2 ^ (height + is_zk) rows, fit the quotient's domain.
  abbrev pub HasSizedDegrees : ℕ → Type 0
  HasSizedDegrees height = HasSmallBound i.constraints height (height + zk_bits ops.opening.is_zk) (log_parts_of i.constraints i.degree_hint (zk_bits ops.opening.is_zk))

  -- The proof is accepted, unless the zeta that its replay draws lies in H.
  abbrev pub IsAcceptedOutside : ProofView K E P F → Type 0
  IsAcceptedOutside p = (alpha zeta : E) → (challenges ops i p).answer ≡ Ok (alpha, zeta) → (IsPointOfH ops.opening.fields (log_height ops.opening.is_zk p.degree_bits) zeta → ⊥) → Accepted ops i p

-- With the key that is set up beside what the prover holds, and where the trace satisfies the AIR, the proof is accepted, unless
-- zeta lies in H.
abbrev pub IsAcceptedIfSatisfied : {S F E C K T P X Y : Type 0} → ProtocolOps S F E C K T P X Y → (Option (PreprocessedVerifierKey K) → Instance S F C K) → Option (Trace F) → Option (PreprocessedProverData K T) → ℕ → Trace F → ProofView K E P F → Type 0
IsAcceptedIfSatisfied {K = K} ops i declared preprocessed_data height trace p = (key : Option (PreprocessedVerifierKey K)) → AreSetUp ops.opening (i key).scheme height declared preprocessed_data key
    → IsSatisfied ops (i key) height declared trace → HasSizedDegrees ops (i key) height → IsAcceptedOutside ops (i key) p

-- What a proof claims of its commitments.
use Rattle.std.specs.Prelude.{◌≡◌, ◌⊎◌, ℕ, ◌+◌, Bool, List, [], ◌∷◌, ◌++◌, map, Option, None, Some, Result, IfOk, IfErr}
use Rattle.stark_support.specs.Coset.{TwoAdicCoset}
use Rattle.stark_support.specs.Claims.{RoundClaim}
use Rattle.stark_support.specs.Scheme.{natural_coset, zk_bits}
use Rattle.stark_transcript.specs.declared.error.VerificationError.{VerificationError}
use Rattle.stark_transcript.specs.declared.error.VerificationError.TheVariants.{InvalidOpeningArgument, OutOfMemory}
use Rattle.stark_protocol.specs.declared.preprocessed.PreprocessedVerifierKey.{PreprocessedVerifierKey}
use Rattle.stark_proof.specs.ProofView.{PreprocessedView, OpeningsView, ProofView}
use Rattle.stark_support.specs.SchemeClauses.{OpeningOps}
use Rattle.stark_protocol.specs.Instance.{log_height}

-- the current row at zeta, and the next one, where it is opened, at the next point
abbrev pub row_points : {E : Type 0} → E → E → List E → Option (List E) → List (E × List E)
row_points zeta next_zeta local None = (zeta, local) ∷ []
row_points zeta next_zeta local (Some next) = (zeta, local) ∷ (next_zeta, next) ∷ []

-- a round of one matrix
abbrev pub one_matrix : {F E K : Type 0} → K → TwoAdicCoset F → List (E × List E) → RoundClaim F E K
one_matrix commitment coset points = (commitment, (coset, points) ∷ [])

-- the random commitment at zeta, if it is there
abbrev pub random_rounds : {F E K : Type 0} → TwoAdicCoset F → E → Option K → Option (List E) → List (RoundClaim F E K)
random_rounds coset zeta (Some commitment) (Some row) = one_matrix commitment coset ((zeta, row) ∷ []) ∷ []
random_rounds coset zeta (Some commitment) None = []
random_rounds coset zeta None row = []

-- the preprocessed columns, if there are any
abbrev pub preprocessed_rounds : {F E K : Type 0} → TwoAdicCoset F → E → E → Option (PreprocessedVerifierKey K) → Option (PreprocessedView E) → List (RoundClaim F E K)
preprocessed_rounds coset zeta next_zeta (Some key) (Some rows) = one_matrix key.commitment coset (row_points zeta next_zeta rows.local rows.next) ∷ []
preprocessed_rounds coset zeta next_zeta (Some key) None = []
preprocessed_rounds coset zeta next_zeta None rows = []

-- a chunk's claim: its coordinates at zeta
abbrev pub chunk_claim : {F E : Type 0} → TwoAdicCoset F → E → List E → TwoAdicCoset F × List (E × List E)
chunk_claim coset zeta chunk = (coset, (zeta, chunk) ∷ [])

-- the quotient's round: a matrix for each chunk
abbrev pub chunks_round : {F E K : Type 0} → K → TwoAdicCoset F → E → List (List E) → RoundClaim F E K
chunks_round commitment coset zeta chunks = (commitment, map (chunk_claim coset zeta) chunks)

-- Random commitment, trace, quotient and preprocessed columns, in this order, each matrix on the committed trace's domain.
-- (A chunk's is the natural one of its part's size times 2 ^ is_zk, which has as many points.)
abbrev pub claims_of : {F E K : Type 0} → TwoAdicCoset F → E → E → Option (PreprocessedVerifierKey K) → K → K → Option K → OpeningsView E → List (RoundClaim F E K)
claims_of coset zeta next_zeta key trace quotient_chunks random opened =
    random_rounds coset zeta random opened.random ++
    (one_matrix trace coset (row_points zeta next_zeta opened.trace_local opened.trace_next)
    ∷ chunks_round quotient_chunks coset zeta opened.quotient_chunks
    ∷ preprocessed_rounds coset zeta next_zeta key opened.preprocessed)

-- The place of the preprocessed round, where a key is given.
abbrev pub preprocessed_place : {K : Type 0} → Bool → Option (PreprocessedVerifierKey K) → Option ℕ
preprocessed_place is_zk None = None
preprocessed_place is_zk (Some key) = Some (2 + zk_bits is_zk)

module _ {S F E C K T P X Y : Type 0} (ops : OpeningOps S F E C K T P X Y) where
  -- h * zeta, where h generates H
  abbrev pub next_point : ℕ → E → E
  next_point degree_bits zeta = ops.fields.ring.mul (ops.fields.embed (ops.fields.root (log_height ops.is_zk degree_bits))) zeta

  -- A proof's claims at zeta.
  abbrev pub claims : Option (PreprocessedVerifierKey K) → ProofView K E P F → E → List (RoundClaim F E K)
  claims key p zeta =
      claims_of (natural_coset ops.fields.base p.degree_bits) zeta (next_point p.degree_bits zeta) key p.commitments.trace p.commitments.quotient_chunks p.commitments.random p.opened_values

  -- The scheme accepts the claims, from this state.
  pub record OpeningsHold (s : S) (key : Option (PreprocessedVerifierKey K)) (p : ProofView K E P F) (zeta : E) (state : C) : Type 0 where
    pub accepted : ops.scheme.Accepts s (claims key p zeta) p.opening_proof state (preprocessed_place ops.is_zk key)

  -- The scheme refuses them, and the error keeps its reason.
  pub data OpeningsFault (s : S) (key : Option (PreprocessedVerifierKey K)) (p : ProofView K E P F) (zeta : E) (state : C) : VerificationError X → Type 0 where
    refused : {reason : X} → ops.scheme.Refuses s (claims key p zeta) p.opening_proof state (preprocessed_place ops.is_zk key) reason → OpeningsFault s key p zeta state (InvalidOpeningArgument reason)

  -- What an opening argument answers: whether the claims hold, want of memory aside.
  pub record OpeningsVerdict (s : S) (key : Option (PreprocessedVerifierKey K)) (p : ProofView K E P F) (zeta : E) (state : C) (answer : Result (Unit {0}) (VerificationError X)) : Type 0 where
    pub holds : IfOk answer (λ _. OpeningsHold s key p zeta state)
    pub fault : IfErr answer (λ error. (error ≡ OutOfMemory) ⊎ OpeningsFault s key p zeta state error)

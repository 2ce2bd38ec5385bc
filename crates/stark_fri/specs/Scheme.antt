-- The FRI scheme, as the laws of schemes see it.
use Rattle.std.specs.Prelude.{◌≡◌, ℕ, ◌+◌, ◌-◌, ◌*◌, ◌/◌, ◌^◌, ⊤, List, [], ◌∷◌, map, length, Option, Some}
use Rattle.std.specs.List.{AllByRecursion, range_with_len, slice_get}
use Rattle.stark_support.specs.Ring.{RingOps}
use Rattle.stark_support.specs.Coset.{TwoAdicCoset, coset_part, coset_point, coset_size}
use Rattle.stark_support.specs.Faults.{PlaceByPlace}
use Rattle.stark_support.specs.declared.matrix.RowMajorMatrix.{RowMajorMatrix}
use Rattle.stark_support.specs.Polynomial.{HasDegreeBelow, value}
use Rattle.std.specs.Borrow.{Bor}
use Rattle.std.specs.declared.vec.Vec.{Vec}
use Rattle.stark_support.specs.Claims.{RoundClaim, RoundPoints, claim_view}
use Rattle.stark_support.specs.Scheme.{CommittedMatrix, CommittingCalls, HasRows, OpenedRound, RoundStands, SchemeOps, TakesRows, handed, matrix_row, row_at, true_claim}
use Rattle.stark_merkle.specs.Tree.{layer_above}
use Rattle.stark_merkle.specs.declared.root.Root.{Root}
use Rattle.stark_fri_proof.specs.declared.parameters.FriParameters.{FriParameters}
use Rattle.stark_fri_proof.specs.Parts.{FriProofView}
use Rattle.stark_fri.specs.Accept.{Accepted, Refused}
use Rattle.stark_fri.specs.Claims.{ClaimsFault, ClaimsFit, RoundRead, height_of, own_claim, round_read, rounds_in}
use Rattle.stark_fri.specs.Parts.{FriDataView, FriOps}
use Rattle.stark_fri.specs.Transcript.{Instance}
use Rattle.stark_fri.specs.declared.error.FriError.{FriError}
use Rattle.stark_fri.specs.declared.error.FriProverError.{FriProverError}
use Rattle.stark_fri.specs.declared.error.FriProverError.TheVariants.{Points, Claims, Heights, NoWork}

abbrev pub columns_of : {F : Type 0} → List (CommittedMatrix F) → List (List (List F))
columns_of matrices = map (λ m. m.columns) matrices

abbrev pub IsFull : {F : Type 0} → CommittedMatrix F → Type 0
IsFull matrix = AllByRecursion (λ column. length column ≡ coset_size matrix.domain) matrix.columns

-- What is to be decided of claims that were read, and of claims.
abbrev pub instance_of : {C F E : Type 0} → FriParameters → List (RoundRead E) → FriProofView F E → C → Instance C F E
instance_of s rounds proof state = record { parameters = s; rounds = rounds; proof = proof; start = state }

abbrev pub claimed_of : {C F E : Type 0} → FriParameters → List (RoundClaim F E Root) → FriProofView F E → C → Instance C F E
claimed_of s claims proof state = instance_of s (map round_read claims) proof state

-- The views of claims in memory.
abbrev pub claims_in : {F E D A B : Type 0} → (D → TwoAdicCoset F) → List (Bor Root × Vec (D × Vec (E × Bor (List E)) A) B) → List (RoundClaim F E Root)
claims_in coset_of claims = map (claim_view coset_of) claims

-- What is asked of claims as they stand in memory: by what of them is read, and by the claims.
abbrev pub asked_of : {C F E D A B : Type 0} → (D → TwoAdicCoset F) → FriParameters → List (Bor Root × Vec (D × Vec (E × Bor (List E)) A) B) → FriProofView F E → C → Instance C F E
asked_of coset_of s claims proof state = instance_of s (rounds_in coset_of claims) proof state

abbrev pub claimed_by : {C F E D A B : Type 0} → (D → TwoAdicCoset F) → FriParameters → List (Bor Root × Vec (D × Vec (E × Bor (List E)) A) B) → FriProofView F E → C → Instance C F E
claimed_by coset_of s claims proof state = claimed_of s (claims_in coset_of claims) proof state

-- The coset of 2 ^ bits points on which columns are extended.
abbrev pub extension_of : {F : Type 0} → F → ℕ → TwoAdicCoset F
extension_of generator bits = record { shift = generator; log_size = bits }

abbrev pub IsExtended : {F : Type 0} → RingOps F → (ℕ → F) → TwoAdicCoset F → List (List F) → RowMajorMatrix F → Type 0
IsExtended ring root coset columns rows = HasRows ring root coset columns rows.values.items rows.width

-- The rows of each matrix are its columns' values at the coset's points.
abbrev pub AreExtended : {F : Type 0} → RingOps F → (ℕ → F) → TwoAdicCoset F → List (List (List F)) → List (RowMajorMatrix F) → Type 0
AreExtended ring root coset matrices extended = PlaceByPlace (IsExtended ring root coset) matrices extended

module _ {C F E : Type 0} (ops : FriOps C F E) where
  -- The values of all columns at point i of the coset of 2 ^ bits points.
  abbrev pub extended_row : ℕ → List (List (List F)) → ℕ → List (List F)
  extended_row bits matrices i = map (λ columns. row_at ops.fields.base (λ c. c) columns (coset_point ops.fields.base ops.fields.root (extension_of ops.fields.generator bits) i)) matrices

  -- The root of the tree over the extended rows.
  abbrev pub IsRootOf : ℕ → List (List (List F)) → Root → Type 0
  IsRootOf bits matrices root = layer_above ops.hash.node bits (map (λ i. ops.hash.leaf (ops.fields.row_bytes (extended_row bits matrices i))) (range_with_len 0 (2 ^ bits))) ≡ root.bytes ∷ []

  pub record FriStands (s : FriParameters) (root : Root) (prover_data : FriDataView F) (matrices : List (CommittedMatrix F)) : Type 0 where
    pub commitment : root ≡ prover_data.root
    pub columns : prover_data.matrices ≡ columns_of matrices
    pub full : AllByRecursion IsFull matrices
    pub heights : AllByRecursion (λ (m : CommittedMatrix F). m.domain.log_size ≡ prover_data.log_height) matrices
    pub rows : AreExtended ops.fields.base ops.fields.root (extension_of ops.fields.generator (prover_data.log_height + s.log_blowup)) prover_data.matrices prover_data.extended
    pub extended : IsRootOf (prover_data.log_height + s.log_blowup) prover_data.matrices root

  abbrev pub own_rounds : List (RoundPoints E (FriDataView F)) → List (RoundRead E)
  own_rounds rounds = map (own_claim ops.fields.ring ops.fields.embed) rounds

  -- All rounds are of the claims' height.
  abbrev pub HaveClaimedHeight : List (RoundPoints E (FriDataView F)) → Type 0
  HaveClaimedHeight rounds = AllByRecursion (λ (round : RoundPoints E (FriDataView F)). round.0.log_height ≡ height_of (own_rounds rounds)) rounds

  -- A round with another number of lists of points than matrices; claims that don't fit, by their first fault; a round of another height;
  -- a search that found nothing, of which nothing is said.
  abbrev pub OpeningRefused : FriParameters → List (RoundPoints E (FriDataView F)) → FriProverError → Type 0
  OpeningRefused s rounds Points = AllByRecursion (λ (round : RoundPoints E (FriDataView F)). length round.1 ≡ length round.0.matrices) rounds → ⊥
  OpeningRefused s rounds (Claims error) = ClaimsFault ops.fields s (own_rounds rounds) error
  OpeningRefused s rounds Heights = ClaimsFit ops.fields s (own_rounds rounds) × (HaveClaimedHeight rounds → ⊥)
  OpeningRefused s rounds NoWork = ⊤

  -- S, T and P are the scheme, the prover's data and the proof as they lie in memory.
  module _ {S T P : Type 0} (parameters_of : S → FriParameters) (data_view : T → FriDataView F) (proof_view : P → FriProofView F E) where
    abbrev pub points_view : RoundPoints E T → RoundPoints E (FriDataView F)
    points_view round = (data_view round.0, round.1)

    abbrev pub asked_instance : S → List (RoundClaim F E Root) → P → C → Instance C F E
    asked_instance s claims proof state = claimed_of (parameters_of s) claims (proof_view proof) state

    abbrev pub fri_scheme : CommittingCalls S F Root T → SchemeOps S F E C Root T P FriError FriProverError
    fri_scheme calls = record {
      log_min_trace_height = λ s. 0;
      log_max_trace_height = λ s. ops.fields.adicity - (parameters_of s).log_blowup;
      IsComplete = λ s. ⊤;
      Stands = λ s root prover_data matrices. FriStands (parameters_of s) root (data_view prover_data) matrices;
      calls = calls;
      Accepts = λ s claims proof state index. Accepted ops (asked_instance s claims proof state);
      Refuses = λ s claims proof state index error. Refused ops (asked_instance s claims proof state) error;
      RefusesCommit = λ s domain values width error. ⊥;
      RefusesPreprocessing = λ s domain values width error. ⊥;
      RefusesQuotient = λ s domain values width chunks error. ⊥;
      RefusesRandomization = λ s domain error. ⊥;
      RefusesOpening = λ s rounds state index error. OpeningRefused (parameters_of s) (map points_view rounds) error;
    }

-- ---- by which call a commitment was made

-- Each column takes the values of a polynomial of degree below n: it has no mask.
abbrev pub ArePlain : {F : Type 0} → RingOps F → ℕ → List (List (List F)) → Type 0
ArePlain {F} field n matrices = AllByRecursion (AllByRecursion (λ column. (p : List F) × HasDegreeBelow n p × ((x : F) → value field column x ≡ value field p x))) matrices

-- Matrix i takes the rows i, i + 2 ^ log_parts, .. on part i of the coset.
abbrev pub TakeParts : {F : Type 0} → RingOps F → (ℕ → F) → TwoAdicCoset F → ℕ → ℕ → List F → List (List (List F)) → Type 0
TakeParts {F} field root coset log_parts width values matrices = (i : ℕ) (columns : List (List F)) → slice_get matrices i ≡ Some columns
    → TakesRows field root (coset_part field root coset log_parts i) width (λ r. matrix_row values width (i + r * 2 ^ log_parts)) columns

-- The calls that commit without masks. There is no random commitment.
abbrev pub fri_calls : {S F T : Type 0} → RingOps F → (ℕ → F) → (T → FriDataView F) → CommittingCalls S F Root T
fri_calls field root data_view = record {
  Commits = λ s domain values width made. ArePlain field (length values / width) (data_view made.1).matrices;
  CommitsPreprocessing = λ s domain values width made. ArePlain field (length values / width) (data_view made.1).matrices;
  CommitsQuotient = λ s domain values width count made. (log_parts : ℕ) → 2 ^ log_parts ≡ count
      → (length (data_view made.1).matrices ≡ count) × TakeParts field root domain log_parts width values (data_view made.1).matrices;
  Randomizes = λ s domain made. ⊥;
}

-- ---- the laws that are proved of it

-- The scheme over structs that are their own views.
abbrev pub plain_scheme : {C F E : Type 0} → FriOps C F E → SchemeOps FriParameters F E C Root (FriDataView F) (FriProofView F E) FriError FriProverError
plain_scheme ops = fri_scheme ops (λ s. s) (λ t. t) (λ p. p) (fri_calls ops.fields.base ops.fields.root (λ t. t))

-- What is accepted of the claims that the prover's data and its points give is accepted of the true claims of any matrices that the data
-- stand for.
abbrev pub OwnClaimsAreEnough : {C F E : Type 0} → FriOps C F E → Type 0
OwnClaimsAreEnough {C} {F} {E} ops = (s : FriParameters) (made : List (OpenedRound F E Root (FriDataView F))) (proof : FriProofView F E) (state : C) (index : Option ℕ)
    → AllByRecursion (RoundStands (plain_scheme ops) s) made
    → Accepted ops (instance_of s (own_rounds ops (map handed made)) proof state)
    → (plain_scheme ops).Accepts s (map (true_claim ops.fields.ring ops.fields.embed) made) proof state index

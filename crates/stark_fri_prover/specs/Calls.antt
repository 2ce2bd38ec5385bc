-- What the prover computes with, and what its functions on rounds in memory promise.
use Rattle.std.specs.Prelude.{ℕ, List, Option}
use Rattle.std.specs.Borrow.{Bor}
use Rattle.std.specs.declared.vec.Vec.{Vec}
use Rattle.stark_support.specs.Claims.{RoundClaim, rounds_view}
use Rattle.stark_support.specs.Coset.{TwoAdicCoset}
use Rattle.stark_support.specs.Scheme.{SchemeOps}
use Rattle.stark_support.specs.declared.matrix.RowMajorMatrix.{RowMajorMatrix}
use Rattle.stark_support.specs.declared.scheme.SchemeFault.{SchemeFault}
use Rattle.stark_merkle.specs.declared.root.Root.{Root}
use Rattle.stark_fri.specs.Found.{AcceptsClaimed, RefusesClaimed}
use Rattle.stark_fri.specs.Parts.{FriDataView, FriOps}
use Rattle.stark_fri.specs.Scheme.{claimed_of}
use Rattle.stark_fri.specs.Soundness.{FewAreBad, FewAreBadOfClaims, IsSound, IsSoundOfClaims}
use Rattle.stark_fri.specs.declared.error.FriError.{FriError}
use Rattle.stark_fri.specs.declared.error.FriProverError.{FriProverError}
use Rattle.stark_fri_proof.specs.Parts.{FriProofView}
use Rattle.stark_fri_proof.specs.declared.parameters.FriParameters.{FriParameters}
use Rattle.stark_fri_prover.specs.MadeOpening.{IsMade, LacksWitness, seen_rounds}
use Rattle.stark_fri_prover.specs.OwnClaims.{AreFitting, RefusesRounds, points_in}

-- What the verifier computes with, how elements are written, and how domains and the prover's data are read.
pub record ProverCalls (C F E T D : Type 0) : Type 0 where
  pub ops : FriOps C F E
  pub bytes_of : F → List ℕ
  pub coordinates : E → List F
  pub coset_of : D → TwoAdicCoset F
  pub data_of : T → FriDataView F
  pub layers_of : T → List (List (List ℕ))

module _ {C F E T D : Type 0} (calls : ProverCalls C F E T D) (s : FriParameters) where
  module _ {A B : Type 0} (rounds : List (Bor T × Vec (Vec E A) B)) where
    -- The claims are what the rounds' data and points give, they fit, and all rounds are of this height.
    abbrev pub FitRounds : {G J : Type 0} → List (Bor Root × Vec (D × Vec (E × Bor (List E)) G) J) → ℕ → Type 0
    FitRounds claims log_height = AreFitting calls.ops calls.coset_of calls.data_of s rounds claims log_height

    -- The proof is made of the rounds, from this state.
    abbrev pub IsProofOf : C → FriProofView F E → Type 0
    IsProofOf state proof = IsMade calls.ops calls.bytes_of calls.coordinates calls.data_of calls.layers_of points_in s rounds state proof

    -- Why nothing is opened from this state.
    abbrev pub RefusesOpening : C → FriProverError → Type 0
    RefusesOpening state error = RefusesRounds calls.ops calls.bytes_of calls.data_of s rounds state error

    -- From this state an honest transcript comes to a check that no element passes.
    abbrev pub LacksWork : C → Type 0
    LacksWork state = LacksWitness calls.ops calls.bytes_of s (seen_rounds calls.data_of points_in rounds) state

  module _ {A B G : Type 0} (claims : Vec (Bor Root × Vec (D × Vec (E × Bor (List E)) A) B) G) (state : C) (proof : FriProofView F E) where
    -- The verifier accepts the claims by the proof, or this is its first fault.
    abbrev pub Accepts : Type 0
    Accepts = AcceptsClaimed calls.ops calls.coset_of s claims.items state proof

    abbrev pub Refuses : SchemeFault FriError → Type 0
    Refuses fault = RefusesClaimed calls.ops calls.coset_of s claims.items state proof fault

    -- What the proof shows of all words that lead to its roots, and that few draws are bad for them.
    abbrev pub ProofShows : Type 0
    ProofShows = IsSoundOfClaims calls.ops calls.coset_of s claims.items state proof

    abbrev pub FewBadDraws : Type 0
    FewBadDraws = FewAreBadOfClaims calls.ops calls.coset_of s claims.items state proof

-- ---- calls of any scheme

module _ {S F E C K T P X Y : Type 0} (scheme : SchemeOps S F E C K T P X Y) (s : S) where
  -- This is made of the quotient of these values.
  abbrev pub CommitsQuotient : TwoAdicCoset F → RowMajorMatrix F → ℕ → K × T → Type 0
  CommitsQuotient coset flat num_chunks made = scheme.calls.CommitsQuotient s coset flat.values.items flat.width num_chunks made

  -- The rounds are not opened with this error.
  abbrev pub RefusesRoundsIn : {A B G : Type 0} → Vec (Bor T × Vec (Vec E A) B) G → C → Option ℕ → Y → Type 0
  RefusesRoundsIn rounds state index error = scheme.RefusesOpening s (rounds_view rounds) state index error

-- What the scheme accepts shows what accepted FRI proofs show, and few draws are bad: for callers that know of a proof by its scheme alone.
abbrev pub AcceptsSoundly : {S F E C T X Y : Type 0} → SchemeOps S F E C Root T (FriProofView F E) X Y → FriOps C F E → (S → FriParameters) → Type 0
AcceptsSoundly {S} {F} {E} {C} scheme ops parameters_of = (s : S) (claims : List (RoundClaim F E Root)) (proof : FriProofView F E) (state : C) (index : Option ℕ) → scheme.Accepts s claims proof state index
    → IsSound ops (claimed_of (parameters_of s) claims proof state) × FewAreBad ops (claimed_of (parameters_of s) claims proof state)

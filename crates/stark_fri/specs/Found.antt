-- What the verifier's functions find.
use Rattle.std.specs.Prelude.{◌≡◌, ℕ, ⊤, List, map, Option, None, Some, Result, Ok, Err}
use Rattle.std.specs.List.{AllByRecursion, zip}
use Rattle.std.specs.declared.vec.Vec.{Vec}
use Rattle.stark_support.specs.Claims.{IfRefused}
use Rattle.stark_support.specs.declared.scheme.SchemeFault.{SchemeFault}
use Rattle.stark_support.specs.Coset.{TwoAdicCoset}
use Rattle.stark_fri_proof.specs.declared.proof.Phase.{Phase}
use Rattle.stark_support.specs.Faults.{FindsFirstFault, IsFirstFault, IsFirstFaultWith}
use Rattle.stark_fri_proof.specs.Parts.{FriProofView, InputOpening}
use Rattle.stark_fri_proof.specs.declared.parameters.FriParameters.{FriParameters}
use Rattle.stark_fri.specs.Accept.{HasFolds, HasLength, HasQueryCount, Refused, Accepted}
use Rattle.stark_fri.specs.Claims.{ClaimsFault, ClaimsFit, RoundRead, height_of, matrices_in}
use Rattle.stark_fri.specs.Parts.{FriFields, FriOps, SpongeCalls}
use Rattle.stark_fri.specs.Query.{InputLeads, QueryAt, QueryFails, QueryHolds, Target, phase_root, rows_seen}
use Rattle.stark_folding.specs.Reduce.{Seen}
use Rattle.stark_fri.specs.Transcript.{FoldsWork, Instance, Passes, QueryWorkPasses, after_phases, alpha_of, betas_of, checks_of, fold_betas, fold_checks, query_places}
use Rattle.stark_fri.specs.declared.replay.Drawn.{Drawn}
use Rattle.stark_fri.specs.declared.error.FriError.{FriError}
use Rattle.stark_fri.specs.declared.error.FriError.TheVariants.{NoClaims, MixedHeights, TooHigh, Widths, PointOnCoset, CommitPhases, FinalPolynomial, Queries, CommitWork, QueryWork, Query}
use Rattle.stark_fri.specs.declared.error.QueryFault.{QueryFault}
use Rattle.stark_fri.specs.Scheme.{claimed_by}
use Rattle.std.specs.Borrow.{Bor}
use Rattle.stark_merkle.specs.declared.root.Root.{Root}
use Rattle.stark_merkle.specs.Tree.{TreeDigests, items_of}

-- All witnesses pass, and these are the drawn challenges and the state behind them; or this fold's witness is the first that doesn't.
abbrev pub Plays : {C F E : Type 0} → SpongeCalls C F E → ℕ → C → List (Phase F) → Result (List E × C) ℕ → Type 0
Plays sponge bits state phases (Ok drawn) =
    AllByRecursion (Passes sponge bits) (checks_of sponge bits state phases) × (drawn.0 ≡ betas_of sponge bits state phases) × (drawn.1 ≡ after_phases sponge bits state phases)
Plays sponge bits state phases (Err fold) = IsFirstFault (Passes sponge bits) (checks_of sponge bits state phases) fold

-- Challenges in memory are played, with the state behind the folds.
abbrev pub PlaysTo : {C F E A : Type 0} → SpongeCalls C F E → ℕ → C → List (Phase F) → C → Result (Vec E A) ℕ → Type 0
PlaysTo sponge bits state phases behind (Ok betas) = Plays sponge bits state phases (Ok (betas.items, behind))
PlaysTo sponge bits state phases behind (Err fold) = Plays sponge bits state phases (Err fold)

-- This is drawn: alpha, the folds' betas, and the places in 2 ^ bits rows.
abbrev pub IsDrawn : {C F E : Type 0} → SpongeCalls C F E → Instance C F E → ℕ → Drawn E → Type 0
IsDrawn sponge i bits drawn =
    (drawn.alpha ≡ alpha_of sponge i) × (drawn.betas.items ≡ fold_betas sponge i) × (drawn.places.items ≡ query_places sponge i bits)

-- All witnesses pass, and this is drawn; or this is the first witness that doesn't.
abbrev pub Replays : {C F E : Type 0} → SpongeCalls C F E → Instance C F E → ℕ → Result (Drawn E) FriError → Type 0
Replays sponge i bits (Ok drawn) = FoldsWork sponge i × QueryWorkPasses sponge i × IsDrawn sponge i bits drawn
Replays sponge i bits (Err (CommitWork phase)) = IsFirstFault (Passes sponge i.parameters.commit_proof_of_work_bits) (fold_checks sponge i) phase
Replays sponge i bits (Err QueryWork) = FoldsWork sponge i × (QueryWorkPasses sponge i → ⊥)
Replays sponge i bits (Err NoClaims) = ⊥
Replays sponge i bits (Err (MixedHeights round)) = ⊥
Replays sponge i bits (Err TooHigh) = ⊥
Replays sponge i bits (Err (Widths round)) = ⊥
Replays sponge i bits (Err (PointOnCoset round)) = ⊥
Replays sponge i bits (Err CommitPhases) = ⊥
Replays sponge i bits (Err FinalPolynomial) = ⊥
Replays sponge i bits (Err Queries) = ⊥
Replays sponge i bits (Err (Query query fault)) = ⊥

-- The claims fit, and this is the logarithm of their height; or this is their first fault.
abbrev pub FindsHeight : {F E : Type 0} → FriFields F E → FriParameters → List (RoundRead E) → Result ℕ FriError → Type 0
FindsHeight fields s rounds (Ok k) = ClaimsFit fields s rounds × (k ≡ height_of rounds)
FindsHeight fields s rounds (Err error) = ClaimsFault fields s rounds error

-- The first round whose rows don't lead to its root; none where all do.
abbrev pub FindsInputFault : {F E : Type 0} → FriFields F E → TreeDigests → ℕ → ℕ → List (RoundRead E) → List (InputOpening F) → Option ℕ → Type 0
FindsInputFault fields hash bits place rounds inputs fault = FindsFirstFault (InputLeads fields hash bits place) (zip rounds inputs) fault

-- The query's first fault; none where it holds.
abbrev pub FindsQueryFault : {F E : Type 0} → FriFields F E → TreeDigests → Target E → QueryAt F E → Option QueryFault → Type 0
FindsQueryFault fields hash target q None = QueryHolds fields hash target q
FindsQueryFault fields hash target q (Some fault) = QueryFails fields hash target fault q

-- Each query holds; or this is the first that doesn't, and its first fault.
abbrev pub FindsFault : {F E : Type 0} → FriFields F E → TreeDigests → Target E → List (QueryAt F E) → Option (ℕ × QueryFault) → Type 0
FindsFault fields hash target queries None = AllByRecursion (QueryHolds fields hash target) queries
FindsFault fields hash target queries (Some fault) = IsFirstFaultWith (QueryHolds fields hash target) (QueryFails fields hash target fault.1) queries fault.0

-- What the queries are checked against, of what was drawn.
abbrev pub target_by : {F E : Type 0} → List (RoundRead E) → ℕ → Drawn E → FriProofView F E → Target E
target_by rounds bits drawn proof = record {
  rounds = rounds;
  bits = bits;
  alpha = drawn.alpha;
  betas = drawn.betas.items;
  trees = map phase_root proof.phases;
  final_polynomial = proof.final_polynomial;
}

-- The proof has as many folds, coefficients and queries as the parameters ask for at a height; or this is the first that differs.
abbrev pub ShapeFits : {F E : Type 0} → FriParameters → ℕ → FriProofView F E → Result ⊤ FriError → Type 0
ShapeFits s k proof (Ok done) = HasFolds s k proof × HasLength s k proof × HasQueryCount s proof
ShapeFits s k proof (Err CommitPhases) = HasFolds s k proof → ⊥
ShapeFits s k proof (Err FinalPolynomial) = HasFolds s k proof × (HasLength s k proof → ⊥)
ShapeFits s k proof (Err Queries) = HasFolds s k proof × HasLength s k proof × (HasQueryCount s proof → ⊥)
ShapeFits s k proof (Err NoClaims) = ⊥
ShapeFits s k proof (Err (MixedHeights round)) = ⊥
ShapeFits s k proof (Err TooHigh) = ⊥
ShapeFits s k proof (Err (Widths round)) = ⊥
ShapeFits s k proof (Err (PointOnCoset round)) = ⊥
ShapeFits s k proof (Err (CommitWork phase)) = ⊥
ShapeFits s k proof (Err QueryWork) = ⊥
ShapeFits s k proof (Err (Query query fault)) = ⊥

-- What holds of a refusal: it is the first fault.
abbrev pub IsRefused : {C F E : Type 0} → FriOps C F E → Instance C F E → SchemeFault FriError → Type 0
IsRefused ops i fault = IfRefused fault (Refused ops i)

-- ---- of claims as they stand in memory

module _ {C F E : Type 0} (ops : FriOps C F E) {D A B : Type 0} (coset_of : D → TwoAdicCoset F) (s : FriParameters) (claims : List (Bor Root × Vec (D × Vec (E × Bor (List E)) A) B)) where
  -- By them a proof is accepted, or refused.
  abbrev pub AcceptsClaimed : C → FriProofView F E → Type 0
  AcceptsClaimed state proof = Accepted ops (claimed_by coset_of s claims proof state)

  abbrev pub RefusesClaimed : C → FriProofView F E → SchemeFault FriError → Type 0
  RefusesClaimed state proof fault = IsRefused ops (claimed_by coset_of s claims proof state) fault

-- What rows are worth at the claims' points.
abbrev pub seen_in : {F E D A B : Type 0} → FriFields F E → (D → TwoAdicCoset F) → List (D × Vec (E × Bor (List E)) A) → List (Vec F B) → List (Seen E)
seen_in fields coset_of matrices rows = rows_seen fields (matrices_in coset_of matrices) (map items_of rows)

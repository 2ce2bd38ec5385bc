-- When the scheme accepts claims, and which fault it names: a replay from the challenger's state, and queries on what it drew.
use Rattle.std.specs.Prelude.{◌≡◌, ℕ, ◌-◌, ◌^◌, min, List, length, map}
use Rattle.std.specs.List.{AllByRecursion, zip}
use Rattle.stark_fri_proof.specs.declared.parameters.FriParameters.{FriParameters}
use Rattle.stark_fri_proof.specs.Parts.{FriProofView}
use Rattle.stark_fri.specs.Claims.{ClaimsFault, ClaimsFit, height_of, row_bits}
use Rattle.stark_support.specs.Faults.{IsFirstFault, IsFirstFaultWith}
use Rattle.stark_fri.specs.Parts.{FriOps}
use Rattle.stark_fri.specs.Query.{QueryAt, QueryFails, QueryHolds, Target, phase_root}
use Rattle.stark_fri.specs.Transcript.{FoldsWork, Instance, Passes, QueryWorkPasses, alpha_of, fold_betas, fold_checks, query_places}
use Rattle.stark_fri.specs.declared.error.FriError.{FriError}
use Rattle.stark_fri.specs.declared.error.FriError.TheVariants.{NoClaims, MixedHeights, TooHigh, Widths, PointOnCoset, CommitPhases, FinalPolynomial, Queries, CommitWork, QueryWork, Query}

-- The logarithm of the final polynomial's length, and the number of folds, at a height.
abbrev pub log_final : FriParameters → ℕ → ℕ
log_final s k = min k s.log_final_poly_len

abbrev pub fold_count : FriParameters → ℕ → ℕ
fold_count s k = k - log_final s k

-- As many folds, coefficients and queries as the parameters ask for.
abbrev pub HasFolds : {F E : Type 0} → FriParameters → ℕ → FriProofView F E → Type 0
HasFolds s k proof = length proof.phases ≡ fold_count s k

abbrev pub HasLength : {F E : Type 0} → FriParameters → ℕ → FriProofView F E → Type 0
HasLength s k proof = length proof.final_polynomial ≡ 2 ^ log_final s k

abbrev pub HasQueryCount : {F E : Type 0} → FriParameters → FriProofView F E → Type 0
HasQueryCount s proof = length proof.queries ≡ s.num_queries

module _ {C F E : Type 0} (ops : FriOps C F E) (i : Instance C F E) where
  abbrev pub log_height_of : ℕ
  log_height_of = height_of i.rounds

  abbrev pub bits_of : ℕ
  bits_of = row_bits ops.fields i.parameters i.rounds

  abbrev pub target_of : Target E
  target_of = record {
    rounds = i.rounds;
    bits = bits_of;
    alpha = alpha_of ops.sponge i;
    betas = fold_betas ops.sponge i;
    trees = map phase_root i.proof.phases;
    final_polynomial = i.proof.final_polynomial;
  }

  abbrev pub all_queries : List (QueryAt F E)
  all_queries = zip (query_places ops.sponge i bits_of) i.proof.queries

  abbrev pub Holds : QueryAt F E → Type 0
  Holds = QueryHolds ops.fields ops.hash target_of

  abbrev pub Fit : Type 0
  Fit = ClaimsFit ops.fields i.parameters i.rounds

  abbrev pub HasPhases : Type 0
  HasPhases = HasFolds i.parameters log_height_of i.proof

  abbrev pub HasFinal : Type 0
  HasFinal = HasLength i.parameters log_height_of i.proof

  abbrev pub HasQueries : Type 0
  HasQueries = HasQueryCount i.parameters i.proof

  pub record ProofFits : Type 0 where
    pub claims : Fit
    pub phases : HasPhases
    pub final : HasFinal
    pub queries : HasQueries

  -- The claims hold by this proof, from this state.
  pub record Accepted : Type 0 where
    pub shape : ProofFits
    pub folds_work : FoldsWork ops.sponge i
    pub query_work : QueryWorkPasses ops.sponge i
    pub queries : AllByRecursion Holds all_queries

  -- The first fault.
  abbrev pub Refused : FriError → Type 0
  Refused NoClaims = ClaimsFault ops.fields i.parameters i.rounds NoClaims
  Refused (MixedHeights round) = ClaimsFault ops.fields i.parameters i.rounds (MixedHeights round)
  Refused TooHigh = ClaimsFault ops.fields i.parameters i.rounds TooHigh
  Refused (Widths round) = ClaimsFault ops.fields i.parameters i.rounds (Widths round)
  Refused (PointOnCoset round) = ClaimsFault ops.fields i.parameters i.rounds (PointOnCoset round)
  Refused CommitPhases = Fit × (HasPhases → ⊥)
  Refused FinalPolynomial = Fit × HasPhases × (HasFinal → ⊥)
  Refused Queries = Fit × HasPhases × HasFinal × (HasQueries → ⊥)
  Refused (CommitWork phase) = ProofFits × IsFirstFault (Passes ops.sponge i.parameters.commit_proof_of_work_bits) (fold_checks ops.sponge i) phase
  Refused QueryWork = ProofFits × FoldsWork ops.sponge i × (QueryWorkPasses ops.sponge i → ⊥)
  Refused (Query query fault) = ProofFits × FoldsWork ops.sponge i × QueryWorkPasses ops.sponge i
      × IsFirstFaultWith Holds (QueryFails ops.fields ops.hash target_of fault) all_queries query

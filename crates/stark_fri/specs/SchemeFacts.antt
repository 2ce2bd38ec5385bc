-- The FRI scheme keeps the laws of schemes, and what the prover's own check accepts is accepted of the true claims.
use Rattle.std.specs.Prelude.{◌≡◌, ℕ, zero, suc, ◌<◌, List, [], ◌∷◌, map, length, Option, All, refl}
use Rattle.std.proofs.Common.{sym, ap, ◌∙◌, subst, arith}
use Rattle.std.specs.List.{AllByRecursion}
use Rattle.stark_support.specs.Coset.{coset_size}
use Rattle.stark_support.specs.Polynomial.{HasDegreeBelow}
use Rattle.stark_support.specs.Scheme.{CommittedMatrix, CommittingCalls, HasDegreesBelowSize, OpenedRound, RoundStands, SchemeLaws, handed, row_at, true_claim, true_matrix_claims}
use Rattle.stark_merkle.specs.declared.root.Root.{Root}
use Rattle.stark_fri_proof.specs.declared.parameters.FriParameters.{FriParameters}
use Rattle.stark_fri_proof.specs.Parts.{FriProofView}
use Rattle.stark_fri.specs.Accept.{Accepted, Refused, target_of}
use Rattle.stark_fri.specs.Claims.{RoundRead, matrix_read, own_claim, own_matrices, round_read}
use Rattle.stark_support.specs.Faults.{no_first_fault, no_first_fault_with}
use Rattle.stark_merkle.specs.Tree.{TreeDigests}
use Rattle.stark_fri.specs.Parts.{FriDataView, FriFields, FriOps}
use Rattle.stark_fri.specs.Query.{QueryAt, QueryFails, QueryHolds, Target}
use Rattle.stark_fri.specs.Scheme.{IsFull, columns_of, fri_scheme, instance_of, own_rounds, points_view}
use Rattle.stark_fri.specs.Transcript.{Instance}
use Rattle.stark_fri.specs.declared.error.FriError.{FriError}
use Rattle.stark_fri.specs.declared.error.FriError.TheVariants.{NoClaims, MixedHeights, TooHigh, Widths, PointOnCoset, CommitPhases, FinalPolynomial, Queries, CommitWork, QueryWork, Query}
use Rattle.stark_fri.specs.declared.error.QueryFault.{QueryFault}
use Rattle.stark_fri.specs.declared.error.QueryFault.TheVariants.{Shape, Input, Layer, Final}

-- ---- accepted or refused

module _ {F E : Type 0} (fields : FriFields F E) (hash : TreeDigests) (target : Target E) where
  query_not_both : (fault : QueryFault) (q : QueryAt F E) → QueryHolds fields hash target q → QueryFails fields hash target fault q → ⊥
  query_not_both Shape q holds fails = fails holds.fits
  query_not_both (Input round) q holds fails = no_first_fault _ _ round fails.1 holds.inputs
  query_not_both (Layer layer) q holds fails = no_first_fault _ _ layer fails.2 holds.layers
  query_not_both Final q holds fails = fails.3 holds.final

module _ {C F E : Type 0} (ops : FriOps C F E) (i : Instance C F E) where
  not_both : (error : FriError) → Accepted ops i → Refused ops i error → ⊥
  not_both NoClaims holds fails = holds.shape.claims.some fails
  not_both (MixedHeights round) holds fails = no_first_fault _ _ round fails.1 holds.shape.claims.heights
  not_both TooHigh holds fails = fails.2 holds.shape.claims.within
  not_both (Widths round) holds fails = no_first_fault _ _ round fails.3 holds.shape.claims.widths
  not_both (PointOnCoset round) holds fails = no_first_fault _ _ round fails.4 holds.shape.claims.off
  not_both CommitPhases holds fails = fails.1 holds.shape.phases
  not_both FinalPolynomial holds fails = fails.2 holds.shape.final
  not_both Queries holds fails = fails.3 holds.shape.queries
  not_both (CommitWork phase) holds fails = no_first_fault _ _ phase fails.1 holds.folds_work
  not_both QueryWork holds fails = fails.2 holds.query_work
  not_both (Query query fault) holds fails =
      no_first_fault_with (QueryHolds ops.fields ops.hash (target_of ops i)) (QueryFails ops.fields ops.hash (target_of ops i) fault)
      (query_not_both ops.fields ops.hash (target_of ops i) fault) _ query fails.3 holds.queries

-- ---- degrees

module _ {F : Type 0} where
  within_size : (n : ℕ) (columns : List (List F)) → AllByRecursion (λ column. length column ≡ n) columns → All (HasDegreeBelow n) columns
  within_size n [] all k d below = absurd (omega arith)
  within_size n (column ∷ columns) all zero d below = omega (arith, all.0)
  within_size n (column ∷ columns) all (suc k) d below = within_size n columns all.1 k d (omega arith)

  full_is_within : (matrices : List (CommittedMatrix F)) → AllByRecursion IsFull matrices → All HasDegreesBelowSize matrices
  full_is_within [] all k d below = absurd (omega arith)
  full_is_within (matrix ∷ matrices) all zero d below = within_size (coset_size matrix.domain) matrix.columns all.0
  full_is_within (matrix ∷ matrices) all (suc k) d below = full_is_within matrices all.1 k d (omega arith)

module _ {C F E S T P : Type 0} (ops : FriOps C F E) (parameters_of : S → FriParameters) (data_view : T → FriDataView F) (proof_view : P → FriProofView F E)
    (calls : CommittingCalls S F Root T) where
  pub fri_laws : ops.fields.adicity < 64 → SchemeLaws (fri_scheme ops parameters_of data_view proof_view calls)
  fri_laws bound = record {
    excludes = λ s claims proof state index error accepted refused. not_both ops (instance_of (parameters_of s) (map round_read claims) (proof_view proof) state) error accepted refused;
    degrees = λ s root prover_data matrices stands. full_is_within matrices stands.full;
    least_height = λ s. omega arith;
    greatest_height = λ s. omega (arith, bound);
  }

-- ---- the prover's own check

module _ {C F E : Type 0} (ops : FriOps C F E) where
  -- Of matrices that stand, the true claims are read as the prover's own.
  same_matrices : (k : ℕ) (matrices : List (CommittedMatrix F)) (points : List (List E)) → AllByRecursion (λ (m : CommittedMatrix F). m.domain.log_size ≡ k) matrices
      → map matrix_read (true_matrix_claims ops.fields.ring ops.fields.embed matrices points) ≡ own_matrices ops.fields.ring ops.fields.embed k (columns_of matrices) points
  same_matrices k [] points heights = refl
  same_matrices k (m ∷ matrices) [] heights = refl
  same_matrices k (m ∷ matrices) (xs ∷ points) heights =
      ap (λ n. (n, map (λ x. (x, row_at ops.fields.ring ops.fields.embed m.columns x)) xs) ∷ map matrix_read (true_matrix_claims ops.fields.ring ops.fields.embed matrices points)) heights.0 ∙
      ap (λ t. (k, map (λ x. (x, row_at ops.fields.ring ops.fields.embed m.columns x)) xs) ∷ t) (same_matrices k matrices points heights.1)

  module _ {S T P : Type 0} (parameters_of : S → FriParameters) (data_view : T → FriDataView F) (proof_view : P → FriProofView F E)
      (calls : CommittingCalls S F Root T) (s : S) where
    abbrev Round : Type 0
    Round = OpenedRound F E Root T

    abbrev own : Round → RoundRead E
    own round = own_claim ops.fields.ring ops.fields.embed (points_view ops parameters_of data_view proof_view (handed round))

    abbrev own_points : List Round → List (RoundRead E)
    own_points made = own_rounds ops (map (points_view ops parameters_of data_view proof_view) (map handed made))

    abbrev RoundsStand : List Round → Type 0
    RoundsStand made = AllByRecursion (RoundStands (fri_scheme ops parameters_of data_view proof_view calls) s) made

    same_round : (round : Round) → RoundStands (fri_scheme ops parameters_of data_view proof_view calls) s round → round_read (true_claim ops.fields.ring ops.fields.embed round) ≡ own round
    same_round round stands =
        let here = stands.stands in
        let prover_data = data_view round.prover_data in
        ap (λ root. (root, map matrix_read (true_matrix_claims ops.fields.ring ops.fields.embed round.matrices round.points))) here.commitment ∙
        ap (λ t. (prover_data.root, t)) (same_matrices prover_data.log_height round.matrices round.points here.heights) ∙
        ap (λ t. (prover_data.root, own_matrices ops.fields.ring ops.fields.embed prover_data.log_height t round.points)) (sym here.columns)

    same_rounds : (made : List Round) → RoundsStand made → map round_read (map (true_claim ops.fields.ring ops.fields.embed) made) ≡ own_points made
    same_rounds [] stand = refl
    same_rounds (round ∷ made) stand =
        ap (λ t. t ∷ map round_read (map (true_claim ops.fields.ring ops.fields.embed) made)) (same_round round stand.0) ∙
        ap (λ t. own round ∷ t) (same_rounds made stand.1)

    pub own_is_true : (made : List Round) (proof : P) (state : C) (index : Option ℕ) → RoundsStand made
        → Accepted ops (instance_of (parameters_of s) (own_points made) (proof_view proof) state)
        → (fri_scheme ops parameters_of data_view proof_view calls).Accepts s (map (true_claim ops.fields.ring ops.fields.embed) made) proof state index
    own_is_true made proof state index stand accepted =
        subst (λ rounds. Accepted ops (instance_of (parameters_of s) rounds (proof_view proof) state)) (sym (same_rounds made stand)) accepted

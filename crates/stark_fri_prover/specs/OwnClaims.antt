-- What the prover opens, claims and answers.
use Rattle.std.specs.Prelude.{ℕ, List, [], ◌∷◌, map, ◌≡◌}
use Rattle.stark_columns.specs.Opened.{opened_round}
use Rattle.stark_fri.specs.Claims.{ClaimsFit, MatrixRead, RoundRead, height_of, matrix_seen, rounds_in}
use Rattle.stark_fri.specs.Parts.{FriDataView, FriOps}
use Rattle.stark_fri.specs.Scheme.{own_rounds}
use Rattle.stark_fri.specs.declared.error.FriProverError.{FriProverError}
use Rattle.stark_fri_proof.specs.declared.parameters.FriParameters.{FriParameters}
use Rattle.stark_fri_prover.specs.MadeOpening.{AreOfHeight, OpeningFault, seen_rounds}
use Rattle.stark_merkle.specs.declared.root.Root.{Root}
use Rattle.stark_support.specs.Claims.{RoundPoints, round_view}
use Rattle.stark_support.specs.Ring.{RingOps}
use Rattle.stark_support.specs.Coset.{TwoAdicCoset}
use Rattle.std.specs.Borrow.{Bor}
use Rattle.std.specs.declared.vec.Vec.{Vec}
use Rattle.stark_columns.specs.Columns.{column_list, columns_list}

-- Two lists' elements, place by place, as far as both reach.
unfoldable pub paired_with : {A B D : Type 0} → (A → B → D) → List A → List B → List D
paired_with f [] ys = []
paired_with f (x ∷ xs) [] = []
paired_with f (x ∷ xs) (y ∷ ys) = f x y ∷ paired_with f xs ys

-- The values of the columns at the points, for each round.
abbrev pub opened_rounds : {F E T : Type 0} → RingOps E → (F → E) → (T → List (List (List F))) → List (RoundPoints E T) → List (List (List (List E)))
opened_rounds ring embed matrices_of rounds = map (λ r. opened_round ring embed (matrices_of r.0, r.1)) rounds

-- The claims that these are the values: each point with a row, each matrix with its height, each round with its root.
abbrev pub point_claims : {E : Type 0} → List E → List (List E) → List (E × List E)
point_claims points rows = paired_with (λ x row. (x, row)) points rows

abbrev pub matrix_claims : {E : Type 0} → ℕ → List (List E) → List (List (List E)) → List (MatrixRead E)
matrix_claims log_height points opened = paired_with (λ xs rows. (log_height, point_claims xs rows)) points opened

abbrev pub round_claims : {E T : Type 0} → (T → Root) → (T → ℕ) → List (RoundPoints E T) → List (List (List (List E))) → List (RoundRead E)
round_claims root_of height_of rounds opened = paired_with (λ r matrices. (root_of r.0, matrix_claims (height_of r.0) r.1 matrices)) rounds opened

-- The claims in memory are those of these points and of what was opened of them: of one matrix, and of rounds.
abbrev pub AreMatrixClaims : {F E D A B G J : Type 0} → (D → TwoAdicCoset F) → ℕ → List (Vec E A) → List (Vec (Vec E B) G) → List (D × Vec (E × Bor (List E)) J) → Type 0
AreMatrixClaims coset_of log_height points opened claims =
    map (matrix_seen coset_of) claims ≡ matrix_claims log_height (map column_list points) (map columns_list opened)

abbrev pub AreOwnClaims : {F E T D A B G J L M N : Type 0} → (D → TwoAdicCoset F) → (T → Root) → (T → ℕ) → List (Bor T × Vec (Vec E A) B)
    → List (Vec (Vec (Vec E G) J) L) → List (Bor Root × Vec (D × Vec (E × Bor (List E)) M) N) → Type 0
AreOwnClaims coset_of root_of height_of rounds opened claims =
    rounds_in coset_of claims ≡ round_claims root_of height_of (map round_view rounds) (map (λ round. map columns_list round.items) opened)

-- ---- claims that fit

-- The points of a round in memory.
abbrev pub points_in : {E A B : Type 0} → Vec (Vec E A) B → List (List E)
points_in points = map column_list points.items

module _ {C F E D T A B G J : Type 0} (ops : FriOps C F E) (coset_of : D → TwoAdicCoset F) (data_of : T → FriDataView F) where
  -- What is claimed in memory is what the rounds' data and points give.
  abbrev pub AreOwn : List (Bor T × Vec (Vec E A) B) → List (Bor Root × Vec (D × Vec (E × Bor (List E)) G) J) → Type 0
  AreOwn rounds claims = rounds_in coset_of claims ≡ own_rounds ops (seen_rounds data_of points_in rounds)

  -- It is, it fits, and all rounds are of its height.
  pub record AreFitting (s : FriParameters) (rounds : List (Bor T × Vec (Vec E A) B)) (claims : List (Bor Root × Vec (D × Vec (E × Bor (List E)) G) J)) (log_height : ℕ) : Type 0 where
    pub own : AreOwn rounds claims
    pub fit : ClaimsFit ops.fields s (own_rounds ops (seen_rounds data_of points_in rounds))
    pub height : log_height ≡ height_of (own_rounds ops (seen_rounds data_of points_in rounds))
    pub heights : AreOfHeight log_height (seen_rounds data_of points_in rounds)

-- What may be answered in place of an opening of rounds in memory.
abbrev pub RefusesRounds : {C F E T A B : Type 0} → FriOps C F E → (F → List ℕ) → (T → FriDataView F) → FriParameters → List (Bor T × Vec (Vec E A) B) → C → FriProverError → Type 0
RefusesRounds ops bytes_of data_of s rounds state error = OpeningFault ops bytes_of s (seen_rounds data_of points_in rounds) state error

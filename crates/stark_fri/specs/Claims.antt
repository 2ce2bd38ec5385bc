-- What the scheme reads of claims, and when they fit.
use Rattle.std.specs.Prelude.{◌≡◌, ℕ, ◌+◌, ◌^◌, ◌≤◌, ⊤, List, [], ◌∷◌, map, length, Option, None, Some, unwrap_or}
use Rattle.std.specs.List.{AllByRecursion}
use Rattle.std.specs.Borrow.{Bor}
use Rattle.std.specs.declared.vec.Vec.{Vec}
use Rattle.stark_support.specs.Ring.{RingOps}
use Rattle.stark_support.specs.Coset.{TwoAdicCoset, coset_vanishing}
use Rattle.stark_support.specs.Claims.{RoundClaim, RoundPoints, point_view}
use Rattle.stark_support.specs.Scheme.{row_at}
use Rattle.stark_merkle.specs.declared.root.Root.{Root}
use Rattle.stark_fri_proof.specs.declared.parameters.FriParameters.{FriParameters}
use Rattle.stark_support.specs.Faults.{IsFirstFault}
use Rattle.stark_fri.specs.Parts.{FriDataView, FriFields}
use Rattle.stark_fri.specs.declared.error.FriError.{FriError}
use Rattle.stark_fri.specs.declared.error.FriError.TheVariants.{NoClaims, MixedHeights, TooHigh, Widths, PointOnCoset, CommitPhases, FinalPolynomial, Queries, CommitWork, QueryWork, Query}

-- A matrix's logarithm of the height, and for each point the claimed values.
abbrev pub MatrixRead : Type 0 → Type 0
MatrixRead E = ℕ × List (E × List E)

-- A root, and its matrices.
abbrev pub RoundRead : Type 0 → Type 0
RoundRead E = Root × List (MatrixRead E)

abbrev pub matrix_read : {F E : Type 0} → TwoAdicCoset F × List (E × List E) → MatrixRead E
matrix_read m = (m.0.log_size, m.1)

abbrev pub round_read : {F E : Type 0} → RoundClaim F E Root → RoundRead E
round_read claim = (claim.0, map matrix_read claim.1)

-- What is read of claims in memory.
abbrev pub matrix_seen : {F E D A : Type 0} → (D → TwoAdicCoset F) → D × Vec (E × Bor (List E)) A → MatrixRead E
matrix_seen coset_of m = ((coset_of m.0).log_size, map point_view m.1.items)

abbrev pub round_seen : {F E D A B : Type 0} → (D → TwoAdicCoset F) → Bor Root × Vec (D × Vec (E × Bor (List E)) A) B → RoundRead E
round_seen coset_of claim = (claim.0.now, map (matrix_seen coset_of) claim.1.items)

abbrev pub matrices_in : {F E D A : Type 0} → (D → TwoAdicCoset F) → List (D × Vec (E × Bor (List E)) A) → List (MatrixRead E)
matrices_in coset_of matrices = map (matrix_seen coset_of) matrices

abbrev pub rounds_in : {F E D A B : Type 0} → (D → TwoAdicCoset F) → List (Bor Root × Vec (D × Vec (E × Bor (List E)) A) B) → List (RoundRead E)
rounds_in coset_of claims = map (round_seen coset_of) claims

-- ---- heights, widths, points

unfoldable pub first_height : {E : Type 0} → List (RoundRead E) → Option ℕ
first_height [] = None
first_height ((root, []) ∷ rounds) = first_height rounds
first_height ((root, m ∷ matrices) ∷ rounds) = Some m.0

-- the logarithm of the height of the first matrix
abbrev pub height_of : {E : Type 0} → List (RoundRead E) → ℕ
height_of rounds = unwrap_or (first_height rounds) 0

abbrev pub HasHeight : {E : Type 0} → ℕ → RoundRead E → Type 0
HasHeight k round = AllByRecursion (λ m. m.0 ≡ k) round.1

-- all points have as many values as the first
abbrev pub HasOneWidth : {E : Type 0} → List (E × List E) → Type 0
HasOneWidth [] = ⊤
HasOneWidth (p ∷ points) = AllByRecursion (λ q. length q.1 ≡ length p.1) points

abbrev pub HasWidths : {E : Type 0} → RoundRead E → Type 0
HasWidths round = AllByRecursion (λ m. HasOneWidth m.1) round.1

module _ {F E : Type 0} (fields : FriFields F E) where
  -- The point doesn't lie on the coset of n extended rows.
  abbrev pub PointIsOff : ℕ → E × List E → Type 0
  PointIsOff n p = coset_vanishing fields.ring fields.embed fields.base_inverse n fields.generator p.0 ≡ fields.ring.zero → ⊥

  abbrev pub MatricesAreOff : ℕ → List (MatrixRead E) → Type 0
  MatricesAreOff n matrices = AllByRecursion (λ m. AllByRecursion (PointIsOff n) m.1) matrices

  abbrev pub PointsAreOff : ℕ → RoundRead E → Type 0
  PointsAreOff n round = MatricesAreOff n round.1

  -- No claimed point lies on the coset of 2 ^ bits extended rows.
  abbrev pub AreOff : ℕ → List (RoundRead E) → Type 0
  AreOff bits rounds = AllByRecursion (PointsAreOff (2 ^ bits)) rounds

  module _ (s : FriParameters) (rounds : List (RoundRead E)) where
    abbrev pub HasSomeClaim : Type 0
    HasSomeClaim = first_height rounds ≡ None → ⊥

    abbrev pub HasOneHeight : Type 0
    HasOneHeight = AllByRecursion (HasHeight (height_of rounds)) rounds

    -- The logarithm of the number of extended rows.
    abbrev pub row_bits : ℕ
    row_bits = height_of rounds + s.log_blowup

    abbrev pub IsWithin : Type 0
    IsWithin = row_bits ≤ fields.adicity

    pub record ClaimsFit : Type 0 where
      pub some : HasSomeClaim
      pub heights : HasOneHeight
      pub within : IsWithin
      pub widths : AllByRecursion HasWidths rounds
      pub off : AreOff row_bits rounds

    -- The first fault of the claims alone.
    abbrev pub ClaimsFault : FriError → Type 0
    ClaimsFault NoClaims = first_height rounds ≡ None
    ClaimsFault (MixedHeights round) = HasSomeClaim × IsFirstFault (HasHeight (height_of rounds)) rounds round
    ClaimsFault TooHigh = HasSomeClaim × HasOneHeight × (IsWithin → ⊥)
    ClaimsFault (Widths round) = HasSomeClaim × HasOneHeight × IsWithin × IsFirstFault HasWidths rounds round
    ClaimsFault (PointOnCoset round) = HasSomeClaim × HasOneHeight × IsWithin × AllByRecursion HasWidths rounds × IsFirstFault (PointsAreOff (2 ^ row_bits)) rounds round
    ClaimsFault CommitPhases = ⊥
    ClaimsFault FinalPolynomial = ⊥
    ClaimsFault Queries = ⊥
    ClaimsFault (CommitWork phase) = ⊥
    ClaimsFault QueryWork = ⊥
    ClaimsFault (Query query fault) = ⊥

-- ---- the prover's own claims

abbrev pub own_matrices : {F E : Type 0} → RingOps E → (F → E) → ℕ → List (List (List F)) → List (List E) → List (MatrixRead E)
own_matrices ring embed k [] points = []
own_matrices ring embed k (columns ∷ matrices) [] = []
own_matrices ring embed k (columns ∷ matrices) (xs ∷ points) = (k, map (λ x. (x, row_at ring embed columns x)) xs) ∷ own_matrices ring embed k matrices points

-- The values that its columns have at the points.
abbrev pub own_claim : {F E : Type 0} → RingOps E → (F → E) → RoundPoints E (FriDataView F) → RoundRead E
own_claim ring embed round = (round.0.root, own_matrices ring embed round.0.log_height round.0.matrices round.1)

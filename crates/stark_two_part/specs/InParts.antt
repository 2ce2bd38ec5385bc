-- A scheme in two parts: a commitment to the first columns of a matrix, and one to the others.
use Rattle.std.specs.Prelude.{◌≡◌, ◌⊎◌, ◌<◌, ◌/◌, ℕ, zero, suc, ◌+◌, List, [], ◌∷◌, ◌++◌, map, length, take, drop, Option, None, Some}
use Rattle.std.specs.List.{AllByRecursion}
use Rattle.stark_two_part.specs.declared.in_parts.InParts.{InParts}
use Rattle.stark_two_part.specs.declared.in_parts.InParts.TheVariants.{Whole, Parts}
use Rattle.stark_two_part.specs.declared.in_parts.Side.{Side}
use Rattle.stark_two_part.specs.declared.in_parts.Side.TheVariants.{All, First, Others}
use Rattle.stark_two_part.specs.declared.pcs.TwoPartPcs.{TwoPartPcs}
use Rattle.stark_support.specs.Ring.{RingOps}
use Rattle.stark_support.specs.Coset.{TwoAdicCoset}
use Rattle.std.specs.declared.vec.Vec.{Vec}
use Rattle.std.specs.Borrow.{Bor}
use Rattle.stark_support.specs.Claims.{RoundClaim, RoundPoints, claims_view}
use Rattle.stark_support.specs.Scheme.{CommittedMatrix, OpenedRound, SchemeOps, SchemeLaws, RoundStands, handed, matrix_row, true_claim, true_values}

-- The values on a side, of which the first has `count`.
abbrev pub side_of : {E : Type 0} → ℕ → Side → List E → List E
side_of count All xs = xs
side_of count First xs = take count xs
side_of count Others xs = drop count xs

-- The claim of some of a matrix's columns.
abbrev pub some_values : {E : Type 0} → (List E → List E) → E × List E → E × List E
some_values some point = (point.0, some point.1)

abbrev pub part_of_matrix : {F E : Type 0} → (List E → List E) → TwoAdicCoset F × List (E × List E) → TwoAdicCoset F × List (E × List E)
part_of_matrix some claim = (claim.0, map (some_values some) claim.1)

module _ {F E K : Type 0} (first : ℕ) where
  -- A claim on parts is one on each.
  abbrev pub claims_on_parts : InParts K → List (TwoAdicCoset F × List (E × List E)) → List (RoundClaim F E K)
  claims_on_parts (Whole k) ms = (k, ms) ∷ []
  claims_on_parts (Parts k l) ms = (k, map (part_of_matrix (side_of first First)) ms) ∷ ((l, map (part_of_matrix (side_of first Others)) ms) ∷ [])

  abbrev pub parts_of_claim : RoundClaim F E (InParts K) → List (RoundClaim F E K)
  parts_of_claim c = claims_on_parts c.0 c.1

  abbrev pub parted_claims : List (RoundClaim F E (InParts K)) → List (RoundClaim F E K)
  parted_claims [] = []
  parted_claims (c ∷ cs) = claims_on_parts c.0 c.1 ++ parted_claims cs

module _ {E T : Type 0} where
  abbrev pub points_on_parts : InParts T → List (List E) → List (RoundPoints E T)
  points_on_parts (Whole t) points = (t, points) ∷ []
  points_on_parts (Parts t u) points = (t, points) ∷ ((u, points) ∷ [])

  abbrev pub parted_rounds : List (RoundPoints E (InParts T)) → List (RoundPoints E T)
  parted_rounds [] = []
  parted_rounds (r ∷ rs) = points_on_parts r.0 r.1 ++ parted_rounds rs

-- how many rounds these are
abbrev pub rounds_in : {K : Type 0} → InParts K → ℕ
rounds_in (Whole k) = 1
rounds_in (Parts k l) = 2

-- Where the n-th round begins, of rounds in parts.
abbrev pub round_begins : {K : Type 0} → List (InParts K) → ℕ → ℕ
round_begins [] n = 0
round_begins (k ∷ ks) zero = 0
round_begins (k ∷ ks) (suc n) = rounds_in k + round_begins ks n

abbrev pub moved_index : {K : Type 0} → List (InParts K) → Option ℕ → Option ℕ
moved_index ks None = None
moved_index ks (Some n) = Some (round_begins ks n)

-- Two parts stand for the one matrix that has the columns of both, and the first has as many as it is to have.
pub record PartsStand {F K T : Type 0} (stands : K → T → List (CommittedMatrix F) → Type 0) (first : ℕ) (k l : K) (t u : T) (matrices : List (CommittedMatrix F)) : Type 0 where
  pub domain : TwoAdicCoset F
  pub left : List (List F)
  pub right : List (List F)
  pub is : matrices ≡ record { domain = domain; columns = left ++ right } ∷ []
  pub number : length left ≡ first
  pub some : 0 < first
  pub others : 0 < length right
  pub left_stands : stands k t (record { domain = domain; columns = left } ∷ [])
  pub right_stands : stands l u (record { domain = domain; columns = right } ∷ [])

abbrev pub StandsInParts : {F K T : Type 0} → (K → T → List (CommittedMatrix F) → Type 0) → ℕ → InParts K → InParts T → List (CommittedMatrix F) → Type 0
StandsInParts stands first (Whole k) (Whole t) matrices = stands k t matrices
StandsInParts stands first (Whole k) (Parts t u) matrices = ⊥
StandsInParts stands first (Parts k l) (Whole t) matrices = ⊥
StandsInParts stands first (Parts k l) (Parts t u) matrices = PartsStand stands first k l t u matrices

-- A call made the whole.
abbrev pub MadeWhole : {K T : Type 0} → (K × T → Type 0) → InParts K × InParts T → Type 0
MadeWhole {K} {T} made both = (k : K) × (t : T) × (both.0 ≡ Whole k) × (both.1 ≡ Whole t) × made (k, t)

-- Or a trace's commitment is made of two calls, of the values of each part and their widths: each row is one of both parts.
pub record MadeInParts {F K T : Type 0} (commits : List F → ℕ → K × T → Type 0) (first : ℕ) (values : List F) (width : ℕ) (both : InParts K × InParts T) : Type 0 where
  pub left_values : List F
  pub right_values : List F
  pub left_made : K × T
  pub right_made : K × T
  pub rest : ℕ
  pub widths : first + rest ≡ width
  pub rows : (r : ℕ) → r < length values / width → matrix_row values width r ≡ matrix_row left_values first r ++ matrix_row right_values rest r
  pub left_is : commits left_values first left_made
  pub right_is : commits right_values rest right_made
  pub commitment : both.0 ≡ Parts left_made.0 right_made.0
  pub prover_data : both.1 ≡ Parts left_made.1 right_made.1

-- The scheme that commits to a trace in two parts, and else as the inner one does.
abbrev pub in_parts : {S F E C K T P X Y : Type 0} → SchemeOps S F E C K T P X Y → SchemeOps (TwoPartPcs S) F E C (InParts K) (InParts T) P X Y
in_parts {F = F₀} inner = record {
  log_min_trace_height = λ s. inner.log_min_trace_height s.inner;
  log_max_trace_height = λ s. inner.log_max_trace_height s.inner;
  IsComplete = λ s. inner.IsComplete s.inner;
  Stands = λ s k t matrices. StandsInParts (inner.Stands s.inner) s.first_width k t matrices;
  calls = record {
    Commits = λ s domain values width made.
        MadeWhole (inner.calls.Commits s.inner domain values width) made ⊎ MadeInParts (inner.calls.Commits s.inner domain) s.first_width values width made;
    CommitsPreprocessing = λ s domain values width made. MadeWhole (inner.calls.CommitsPreprocessing s.inner domain values width) made;
    CommitsQuotient = λ s domain values width chunks made. MadeWhole (inner.calls.CommitsQuotient s.inner domain values width chunks) made;
    Randomizes = λ s domain made. MadeWhole (inner.calls.Randomizes s.inner domain) made;
  };
  Accepts = λ s claims proof state index. inner.Accepts s.inner (parted_claims s.first_width claims) proof state (moved_index (map (λ c. c.0) claims) index);
  Refuses = λ s claims proof state index error. inner.Refuses s.inner (parted_claims s.first_width claims) proof state (moved_index (map (λ c. c.0) claims) index) error;
  RefusesCommit = λ s domain values width error. ((part : List F₀) × (count : ℕ) × inner.RefusesCommit s.inner domain part count error);
  RefusesPreprocessing = λ s domain values width error. inner.RefusesPreprocessing s.inner domain values width error;
  RefusesQuotient = λ s domain values width chunks error. inner.RefusesQuotient s.inner domain values width chunks error;
  RefusesRandomization = λ s domain error. inner.RefusesRandomization s.inner domain error;
  RefusesOpening = λ s rounds state index error. inner.RefusesOpening s.inner (parted_rounds rounds) state (moved_index (map (λ r. r.0) rounds) index) error;
}

-- The scheme may refuse the claims, whose domains are seen as cosets, with this error.
abbrev pub RefusesClaims : {S F E C K T P X Y D A B G : Type 0} → SchemeOps S F E C K T P X Y → (D → TwoAdicCoset F) → S
    → Vec (Bor K × Vec (D × Vec (E × Bor (List E)) A) B) G → P → C → Option ℕ → X → Type 0
RefusesClaims scheme coset_of s claims proof state index error = scheme.Refuses s (claims_view coset_of claims) proof state index error

-- ---- rounds

-- For each point the values of the first part, and after them those of the second.
abbrev pub joined_rows : {E : Type 0} → List (List E) → List (List E) → List (List E)
joined_rows [] ws = []
joined_rows (v ∷ vs) [] = []
joined_rows (v ∷ vs) (w ∷ ws) = (v ++ w) ∷ joined_rows vs ws

abbrev pub joined_matrices : {E : Type 0} → List (List (List E)) → List (List (List E)) → List (List (List E))
joined_matrices [] ns = []
joined_matrices (m ∷ ms) [] = []
joined_matrices (m ∷ ms) (n ∷ ns) = joined_rows m n ∷ joined_matrices ms ns

-- What is opened of rounds, from what the inner scheme opens of their parts.
abbrev pub joined_opened : {E T : Type 0} → List (InParts T) → List (List (List (List E))) → List (List (List (List E)))
joined_opened [] os = []
joined_opened (t ∷ ts) [] = []
joined_opened (Whole t ∷ ts) (o ∷ os) = o ∷ joined_opened ts os
joined_opened (Parts t u ∷ ts) (o ∷ []) = []
joined_opened (Parts t u ∷ ts) (o ∷ (p ∷ os)) = joined_matrices o p ∷ joined_opened ts os

-- What rounds in parts that stand are to the inner scheme: rounds that stand, with the parted points and claims, of which the opened
-- values are the parts.
pub record PartedRounds {S F E C K T P X Y : Type 0} (inner : SchemeOps S F E C K T P X Y) (s : S) (first : ℕ) (extension : RingOps E) (embed : F → E)
    (made : List (OpenedRound F E (InParts K) (InParts T))) : Type 0 where
  pub rounds : List (OpenedRound F E K T)
  pub stand : AllByRecursion (RoundStands inner s) rounds
  pub points : map handed rounds ≡ parted_rounds (map handed made)
  pub claims : map (true_claim extension embed) rounds ≡ parted_claims first (map (true_claim extension embed) made)
  pub values : joined_opened (map (λ r. r.prover_data) made) (map (true_values extension embed) rounds) ≡ map (true_values extension embed) made
  pub places : (index : Option ℕ) → moved_index (map (λ r. r.prover_data) made) index ≡ moved_index (map (λ r. r.commitment) made) index

-- A scheme's laws are kept, and rounds in parts that stand are rounds of the inner scheme that stand.
pub record PartsKeepLaws {S F E C K T P X Y : Type 0} (inner : SchemeOps S F E C K T P X Y) : Type 0 where
  pub laws : SchemeLaws (in_parts inner)
  pub rounds : (s : TwoPartPcs S) (extension : RingOps E) (embed : F → E) (made : List (OpenedRound F E (InParts K) (InParts T))) → AllByRecursion (RoundStands (in_parts inner) s) made
      → PartedRounds inner s.inner s.first_width extension embed made

-- A state that has observed whether there are parts, by an element that says so, and after it the whole or both parts, the first one
-- first.
abbrev pub after_parts : {C F K : Type 0} → (whole parts : F) → (C → F → C) → (C → K → C) → C → InParts K → C
after_parts whole parts observe_element observe state (Whole k) = observe (observe_element state whole) k
after_parts whole parts observe_element observe state (Parts k l) = observe (observe (observe_element state parts) k) l

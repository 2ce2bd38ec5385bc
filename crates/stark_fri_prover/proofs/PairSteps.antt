-- Two lists that are read in turn, and claims of what was opened.
use Rattle.std.proofs.Common.{◌≡◌, ◌∙◌, ◌⊎◌, ℕ, ◌+◌, ◌<◌, ◌≤◌, List, [], ◌∷◌, ◌++◌, append_assoc, ap, drop, get_or, inl, inr, length, map, refl, sym}
use Rattle.std.proofs.lemmas.List.{append-nil, drop_all}
use Rattle.std.specs.Prelude.{min}
use Rattle.stark_support.proofs.Places.{from_place}
use Rattle.std.specs.List.{AllByRecursion}
use Rattle.stark_support.specs.Claims.{RoundPoints}
use Rattle.stark_support.specs.Ring.{RingOps}
use Rattle.stark_support.specs.declared.matrix.RowMajorMatrix.{RowMajorMatrix}
use Rattle.stark_support.specs.Scheme.{CommittingCalls, OpenedRound, RoundStands, handed, row_at, true_values}
use Rattle.stark_columns.specs.Opened.{matrices_at}
use Rattle.stark_columns.specs.OpenedFacts.{one_is_done, opened_are_true}
use Rattle.stark_merkle.specs.declared.root.Root.{Root}
use Rattle.stark_fri.specs.Claims.{own_claim, own_matrices}
use Rattle.stark_fri.specs.Parts.{FriDataView, FriOps}
use Rattle.stark_fri.specs.Scheme.{fri_scheme}
use Rattle.stark_fri_proof.specs.declared.parameters.FriParameters.{FriParameters}
use Rattle.stark_fri_proof.specs.Parts.{FriProofView}
use Rattle.stark_fri_prover.specs.OwnClaims.{matrix_claims, opened_rounds, paired_with, round_claims}

module _ {A B D X Y : Type 0} (h : X → Y → D) (f : A → X) (g : B → Y) (xs : List A) (ys : List B) where
  abbrev from : ℕ → List D
  from i = paired_with h (map f (drop i xs)) (map g (drop i ys))

  -- What was made, with what is to be made, is the whole.
  abbrev pub PairedTo : ℕ → List D → Type 0
  PairedTo i made = made ++ paired_with h (map f (drop i xs)) (map g (drop i ys)) ≡ paired_with h (map f xs) (map g ys)

  pub paired_more : (i : ℕ) (x : A) (y : B) (z : D) (before after : List D) → i < length xs → i < length ys → x ≡ get_or xs i x → y ≡ get_or ys i y → z ≡ h (f x) (g y) → after ≡ before ++ z ∷ []
      → PairedTo i before → PairedTo (i + 1) after
  unfolding paired_with
  paired_more i x y z before after left right is_x is_y gives pushed so_far =
      ap (λ t. t ++ from (i + 1)) (pushed ∙ ap (λ t. before ++ t ∷ []) gives) ∙ append_assoc before (h (f x) (g y) ∷ []) (from (i + 1))
      ∙ ap (λ t. before ++ paired_with h (map f (x ∷ drop (i + 1) xs)) (map g t)) (sym (from_place ys i (i + 1) y refl right is_y))
      ∙ ap (λ t. before ++ paired_with h (map f t) (map g (drop i ys))) (sym (from_place xs i (i + 1) x refl left is_x)) ∙ so_far

  no_right : (zs : List X) → paired_with h zs [] ≡ []
  unfolding paired_with
  no_right [] = refl
  no_right (z ∷ zs) = refl

  none_from : (i : ℕ) → (length xs ≤ i) ⊎ (length ys ≤ i) → from i ≡ []
  unfolding paired_with
  none_from i (inl ended) = ap (λ t. paired_with h (map f t) (map g (drop i ys))) (drop_all i xs ended)
  none_from i (inr ended) = ap (λ t. paired_with h (map f (drop i xs)) (map g t)) (drop_all i ys ended) ∙ no_right (map f (drop i xs))

  pub paired_all : (i : ℕ) (made : List D) → min (length xs) (length ys) ≤ i → PairedTo i made → made ≡ paired_with h (map f xs) (map g ys)
  paired_all i made ended so_far = sym (append-nil made) ∙ ap (λ t. made ++ t) (sym (none_from i (one_is_done i (length xs) (length ys) ended))) ∙ so_far

-- ---- claims of what was opened

each_with_its_own : {A B : Type 0} (f : A → B) (xs : List A) → paired_with {D = A × B} (λ x y. (x, y)) xs (map f xs) ≡ map (λ x. (x, f x)) xs
unfolding paired_with
each_with_its_own f [] = refl
each_with_its_own {A = A} {B = B} f (x ∷ xs) = let here : A × B = (x, f x) in ap (λ t. here ∷ t) (each_with_its_own f xs)

module _ {F E : Type 0} (ring : RingOps E) (embed : F → E) where
  matrices_claimed : (k : ℕ) (matrices : List (List (List F))) (points : List (List E)) → matrix_claims k points (matrices_at ring embed matrices points) ≡ own_matrices ring embed k matrices points
  unfolding paired_with matrices_at
  matrices_claimed k [] [] = refl
  matrices_claimed k [] (xs ∷ points) = refl
  matrices_claimed k (columns ∷ matrices) [] = refl
  matrices_claimed k (columns ∷ matrices) (xs ∷ points) =
      ap (λ t. (k, t) ∷ matrix_claims k points (matrices_at ring embed matrices points)) (each_with_its_own (row_at ring embed columns) xs)
      ∙ ap (λ t. (k, map (λ x. (x, row_at ring embed columns x)) xs) ∷ t) (matrices_claimed k matrices points)

-- The prover's data of a round, as the scheme's definitions read them.
module _ {F E T : Type 0} (root_of : T → Root) (height_of : T → ℕ) (matrices_of : T → List (List (List F))) (extended_of : T → List (RowMajorMatrix F)) where
  abbrev pub data_of : RoundPoints E T → RoundPoints E (FriDataView F)
  data_of round = (record { root = root_of round.0; log_height = height_of round.0; matrices = matrices_of round.0; extended = extended_of round.0 }, round.1)

  -- Claims of what was opened are the prover's own.
  pub rounds_claimed : (ring : RingOps E) (embed : F → E) (rounds : List (RoundPoints E T)) → round_claims root_of height_of rounds (opened_rounds ring embed matrices_of rounds) ≡ map (own_claim ring embed) (map data_of rounds)
  unfolding paired_with
  rounds_claimed ring embed [] = refl
  rounds_claimed ring embed (round ∷ rounds) =
      ap (λ t. (root_of round.0, t) ∷ round_claims root_of height_of rounds (opened_rounds ring embed matrices_of rounds)) (matrices_claimed ring embed (height_of round.0) (matrices_of round.0) round.1)
      ∙ ap (λ t. own_claim ring embed (data_of round) ∷ t) (rounds_claimed ring embed rounds)

  -- Where the data have as many matrices as are counted, a round that has its points has as many lists.
  pub points_counted : (count_of : T → ℕ) → ((kept : T) → length (matrices_of kept) ≡ count_of kept) → (rounds : List (RoundPoints E T))
      → AllByRecursion (λ (r : RoundPoints E (FriDataView F)). length r.1 ≡ length r.0.matrices) (map data_of rounds) → AllByRecursion (λ (r : RoundPoints E T). length r.1 ≡ count_of r.0) rounds
  points_counted count_of counted [] all = tt
  points_counted count_of counted (round ∷ rounds) all = (all.0 ∙ counted round.0, points_counted count_of counted rounds all.1)

-- ---- true values

module _ {C F E S T P : Type 0} (ops : FriOps C F E) (parameters_of : S → FriParameters) (data_view : T → FriDataView F) (proof_view : P → FriProofView F E) (calls : CommittingCalls S F Root T) (s : S) where
  -- What is opened of rounds that stand are the true values.
  pub true_openings : (made : List (OpenedRound F E Root T)) → AllByRecursion (RoundStands (fri_scheme ops parameters_of data_view proof_view calls) s) made
      → opened_rounds ops.fields.ring ops.fields.embed (λ kept. (data_view kept).matrices) (map handed made) ≡ map (true_values ops.fields.ring ops.fields.embed) made
  true_openings [] stand = refl
  true_openings (round ∷ made) stand =
      ap (λ t. matrices_at ops.fields.ring ops.fields.embed t round.points ∷ opened_rounds ops.fields.ring ops.fields.embed (λ kept. (data_view kept).matrices) (map handed made)) stand.0.stands.columns
      ∙ ap (λ t. t ∷ opened_rounds ops.fields.ring ops.fields.embed (λ kept. (data_view kept).matrices) (map handed made)) (opened_are_true ops.fields.ring ops.fields.embed round.matrices round.points)
      ∙ ap (λ t. true_values ops.fields.ring ops.fields.embed round ∷ t) (true_openings made stand.1)

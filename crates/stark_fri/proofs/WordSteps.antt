-- What queries see of opened rows is what the run of the words sees; and the claims' points are off the coset.
use Rattle.std.specs.Prelude.{◌≡◌, ◌≢◌, ℕ, suc, ◌+◌, ◌^◌, ◌<◌, ◌≤◌, List, [], ◌∷◌, ◌++◌, length, map, refl, slice_index_or}
use Rattle.std.specs.List.{AllByRecursion, zip}
use Rattle.std.proofs.Common.{sym, ap, ◌∙◌, arith}
use Rattle.std.proofs.lemmas.List.Concat.{flat_map-cons}
use Rattle.std.proofs.lemmas.List.{map-append}
use Rattle.stark_support.specs.Coset.{IsTwoAdicCoset, TwoAdicCoset, coset_point}
use Rattle.stark_support.specs.Faults.{PlaceByPlace}
use Rattle.stark_support.specs.PointFacts.{all_append}
use Rattle.stark_support.specs.Powers.{power}
use Rattle.stark_support.specs.KeepsRing.{kept_power}
use Rattle.stark_folding.specs.Reduce.{Seen}
use Rattle.stark_fri_proof.specs.Parts.{InputOpening}
use Rattle.stark_fri_soundness.specs.Claims.{Claim, ColumnIndex, seen_at_place}
use Rattle.stark_fri.specs.Claims.{AreOff, MatrixRead, PointIsOff, PointsAreOff, RoundRead}
use Rattle.stark_fri.specs.Parts.{FriFields}
use Rattle.stark_fri.specs.Query.{InputFits, RowFits, extension_coset, extension_root, rows_seen, seen_at, seen_at_point, seen_at_points, seen_in_matrix, seen_in_round, seen_of}
use Rattle.stark_fri.specs.Soundness.{AreFields}
use Rattle.stark_fri.specs.Words.{RowsAreOpened, Words, claims_of, embedded_column, matrix_claims, point_claims, round_claims, value_claims}
use Rattle.stark_fri.proofs.PointSteps.{apart_from_rows}

-- ---- lists

pub seconds : {A B : Type 0} (xs : List A) (ys : List B) → length xs ≡ length ys → map (λ (both : A × B). both.1) (zip xs ys) ≡ ys
seconds [] [] same = refl
seconds [] (y ∷ ys) same = absurd (omega arith)
seconds (x ∷ xs) [] same = absurd (omega arith)
seconds (x ∷ xs) (y ∷ ys) same = ap (λ t. y ∷ t) (seconds xs ys (omega arith))

pub zip_length : {A B : Type 0} (xs : List A) (ys : List B) → length xs ≡ length ys → length (zip xs ys) ≡ length ys
zip_length [] [] same = refl
zip_length [] (y ∷ ys) same = absurd (omega arith)
zip_length (x ∷ xs) [] same = absurd (omega arith)
zip_length (x ∷ xs) (y ∷ ys) same = ap suc (zip_length xs ys (omega arith))

module _ {F E : Type 0} (fields : FriFields F E) (columns : ColumnIndex → ℕ → E) (place : ℕ) where
  abbrev seen : Claim ColumnIndex E → Seen E
  seen = seen_at_place fields.ring fields.inverse columns place

  values_seen : (round matrix number : ℕ) (z : E) (row : List F) (values : List E) → length values ≡ length row
      → ((j k : ℕ) → k ≡ number + j → columns (record { round = round; matrix = matrix; number = k }) place ≡ fields.embed (slice_index_or row j fields.base.zero))
      → map (seen_at fields z) (zip row values) ≡ map seen (value_claims round matrix number z values)
  unfolding value_claims
  values_seen round matrix number z [] [] fits are = refl
  values_seen round matrix number z [] (v ∷ values) fits are = absurd (omega arith)
  values_seen round matrix number z (a ∷ row) [] fits are = absurd (omega arith)
  values_seen round matrix number z (a ∷ row) (v ∷ values) fits are =
      ap (λ t. (t, v, z) ∷ map (seen_at fields z) (zip row values)) (sym (are 0 number (omega arith)))
      ∙ ap (λ ts. (columns (record { round = round; matrix = matrix; number = number }) place, v, z) ∷ ts)
      (values_seen round matrix (suc number) z row values (omega arith) (λ j k is. are (suc j) k (omega arith)))

  module _ (round matrix : ℕ) (row : List F) (are : (k : ℕ) → columns (record { round = round; matrix = matrix; number = k }) place ≡ fields.embed (slice_index_or row k fields.base.zero)) where
    points_seen : (points : List (E × List E)) → AllByRecursion (λ p. length p.1 ≡ length row) points → seen_at_points fields row points ≡ map seen (point_claims round matrix points)
    unfolding point_claims
    points_seen [] fit = refl
    points_seen (p ∷ points) fit =
        flat_map-cons (seen_at_point fields row) p points
        ∙ ap (λ t. t ++ seen_at_points fields row points)
        (values_seen round matrix 0 p.0 row p.1 fit.0 (λ j k is. let same : k ≡ j = omega arith in ap (λ n. columns (record { round = round; matrix = matrix; number = n }) place) same ∙ are j))
        ∙ ap (λ t. map seen (value_claims round matrix 0 p.0 p.1) ++ t) (points_seen points fit.1)
        ∙ sym (map-append seen (value_claims round matrix 0 p.0 p.1) (point_claims round matrix points))

  matrices_seen : (round matrix : ℕ) (matrices : List (MatrixRead E)) (rows : List (List F)) → PlaceByPlace RowFits matrices rows
      → ((j m k : ℕ) → m ≡ matrix + j → columns (record { round = round; matrix = m; number = k }) place ≡ fields.embed (slice_index_or (slice_index_or rows j []) k fields.base.zero))
      → rows_seen fields matrices rows ≡ map seen (matrix_claims round matrix matrices)
  unfolding matrix_claims PlaceByPlace
  matrices_seen round matrix [] [] fit are = refl
  matrices_seen round matrix [] (row ∷ rows) fit are = absurd fit
  matrices_seen round matrix (m ∷ matrices) [] fit are = absurd fit
  matrices_seen round matrix (m ∷ matrices) (row ∷ rows) fit are =
      flat_map-cons (seen_in_matrix fields) (m, row) (zip matrices rows)
      ∙ ap (λ t. t ++ rows_seen fields matrices rows) (points_seen round matrix row (λ k. are 0 matrix k (omega arith)) m.1 fit.0)
      ∙ ap (λ t. map seen (point_claims round matrix m.1) ++ t) (matrices_seen round (suc matrix) matrices rows fit.1 (λ j n k is. are (suc j) n k (omega arith)))
      ∙ sym (map-append seen (point_claims round matrix m.1) (matrix_claims round (suc matrix) matrices))

module _ {F E : Type 0} (fields : FriFields F E) (words : Words F E) (place : ℕ) where
  abbrev columns : ColumnIndex → ℕ → E
  columns = embedded_column fields words

  pub rounds_seen : (round : ℕ) (rounds : List (RoundRead E)) (inputs : List (InputOpening F)) → PlaceByPlace InputFits rounds inputs → RowsAreOpened fields words round place inputs
      → seen_of fields rounds inputs ≡ map (seen fields columns place) (round_claims round rounds)
  unfolding round_claims PlaceByPlace RowsAreOpened
  rounds_seen round [] [] fit opened = refl
  rounds_seen round [] (input ∷ inputs) fit opened = absurd fit
  rounds_seen round (read ∷ rounds) [] fit opened = absurd fit
  rounds_seen round (read ∷ rounds) (input ∷ inputs) fit opened =
      flat_map-cons (seen_in_round fields) (read, input) (zip rounds inputs)
      ∙ ap (λ t. t ++ seen_of fields rounds inputs) (matrices_seen fields columns place round 0 read.1 input.rows fit.0
      (λ j m k is. let same : m ≡ j = omega arith in ap (λ n. columns (record { round = round; matrix = n; number = k }) place) same
      ∙ ap (λ rows. fields.embed (slice_index_or (slice_index_or rows j []) k fields.base.zero)) (sym opened.0)))
      ∙ ap (λ t. map (seen fields columns place) (matrix_claims round 0 read.1) ++ t) (rounds_seen (suc round) rounds inputs fit.1 opened.1)
      ∙ sym (map-append (seen fields columns place) (matrix_claims round 0 read.1) (round_claims (suc round) rounds))

-- ---- claims are off the coset

module _ {E : Type 0} (Off : E → Type 0) where
  abbrev IsOff : Claim ColumnIndex E → Type 0
  IsOff claim = Off claim.at

  values_off : (round matrix number : ℕ) (z : E) → Off z → (values : List E) → AllByRecursion IsOff (value_claims round matrix number z values)
  unfolding value_claims
  values_off round matrix number z off [] = tt
  values_off round matrix number z off (v ∷ values) = (off, values_off round matrix (suc number) z off values)

  points_off : (round matrix : ℕ) (points : List (E × List E)) → AllByRecursion (λ p. Off p.0) points → AllByRecursion IsOff (point_claims round matrix points)
  unfolding point_claims
  points_off round matrix [] off = tt
  points_off round matrix (p ∷ points) off =
      all_append IsOff (value_claims round matrix 0 p.0 p.1) (point_claims round matrix points) (values_off round matrix 0 p.0 off.0 p.1) (points_off round matrix points off.1)

  matrices_off : (round matrix : ℕ) (matrices : List (MatrixRead E)) → AllByRecursion (λ m. AllByRecursion (λ p. Off p.0) m.1) matrices → AllByRecursion IsOff (matrix_claims round matrix matrices)
  unfolding matrix_claims
  matrices_off round matrix [] off = tt
  matrices_off round matrix (m ∷ matrices) off =
      all_append IsOff (point_claims round matrix m.1) (matrix_claims round (suc matrix) matrices) (points_off round matrix m.1 off.0) (matrices_off round (suc matrix) matrices off.1)

  rounds_off : (round : ℕ) (rounds : List (RoundRead E)) → AllByRecursion (λ read. AllByRecursion (λ m. AllByRecursion (λ p. Off p.0) m.1) read.1) rounds → AllByRecursion IsOff (round_claims round rounds)
  unfolding round_claims
  rounds_off round [] off = tt
  rounds_off round (read ∷ rounds) off =
      all_append IsOff (matrix_claims round 0 read.1) (round_claims (suc round) rounds) (matrices_off round 0 read.1 off.0) (rounds_off (suc round) rounds off.1)

pub all_mean : {A : Type 0} {P Q : A → Type 0} → ((x : A) → P x → Q x) → (xs : List A) → AllByRecursion P xs → AllByRecursion Q xs
all_mean f [] all = tt
all_mean f (x ∷ xs) all = (f x all.0, all_mean f xs all.1)

module _ {F E : Type 0} (fields : FriFields F E) (are : AreFields fields) (bits : ℕ) (within : bits ≤ fields.adicity) where
  abbrev coset : TwoAdicCoset E
  coset = extension_coset fields bits

  pub valid : IsTwoAdicCoset fields.ring fields.adicity coset
  valid = record {
    shift_nonzero = λ same. are.two_adic.generator_nonzero (are.embeds.injective fields.generator fields.base.zero (same ∙ sym are.embeds.keeps.zero));
    within = within;
  }

  -- A row's point, computed in the base field.
  pub point_is : (i : ℕ) → coset_point fields.ring (extension_root fields) coset i ≡ fields.embed (coset_point fields.base fields.root (record { shift = fields.generator; log_size = bits }) i)
  point_is i =
      ap (fields.ring.mul (fields.embed fields.generator)) (sym (kept_power are.embeds.keeps (fields.root bits) (fields.embed (fields.root bits)) i refl))
      ∙ sym (are.embeds.keeps.mul fields.generator (power fields.base (fields.root bits) i))

  abbrev Apart : E → Type 0
  Apart z = (i : ℕ) → i < 2 ^ bits → coset_point fields.ring (extension_root fields) coset i ≢ z

  apart_points : (points : List (E × List E)) → AllByRecursion (PointIsOff fields (2 ^ bits)) points → AllByRecursion (λ p. Apart p.0) points
  apart_points points off =
      all_mean {P = PointIsOff fields (2 ^ bits)} {Q = λ p. Apart p.0}
      (λ p is i below. apart_from_rows fields are.base are.two_adic are.embeds bits i within (coset_point fields.ring (extension_root fields) coset i) (point_is i) p is) points off

  apart_matrices : (matrices : List (MatrixRead E)) → AllByRecursion (λ m. AllByRecursion (PointIsOff fields (2 ^ bits)) m.1) matrices → AllByRecursion (λ m. AllByRecursion (λ p. Apart p.0) m.1) matrices
  apart_matrices matrices off =
      all_mean {P = λ (m : MatrixRead E). AllByRecursion (PointIsOff fields (2 ^ bits)) m.1} {Q = λ (m : MatrixRead E). AllByRecursion (λ p. Apart p.0) m.1} (λ m is. apart_points m.1 is) matrices off

  pub claims_off : (rounds : List (RoundRead E)) → AreOff fields bits rounds → AllByRecursion (λ (claim : Claim ColumnIndex E). Apart claim.at) (claims_of rounds)
  claims_off rounds off =
      rounds_off Apart 0 rounds
      (all_mean {P = PointsAreOff fields (2 ^ bits)} {Q = λ (read : RoundRead E). AllByRecursion (λ m. AllByRecursion (λ p. Apart p.0) m.1) read.1} (λ read is. apart_matrices read.1 is) rounds off)

-- Columns without masks that take declared rows have everywhere the values of the polynomials of least degree that take them.
use Rattle.std.proofs.Common.{◌≡◌, ◌∙◌, ap, arith, inl, inr, refl, subst, sym, ℕ, zero, suc, ◌+◌, ◌*◌, ◌/◌, ◌^◌, ◌<◌, ◌≤◌, Bool, true, false, nat_lt, List, [], ◌∷◌, length, map}
use Rattle.std.specs.List.{AllByRecursion, range_with_len}
use Rattle.stark_support.specs.Coset.{TwoAdicCoset, coset_point}
use Rattle.stark_support.specs.Polynomial.{HasDegreeBelow, value}
use Rattle.stark_support.specs.Ring.{FieldLaws, RingOps}
use Rattle.stark_support.specs.Scheme.{TakesRows, natural_coset, row_at}
use Rattle.stark_support.specs.TwoAdic.{TwoAdicLaws}
use Rattle.stark_fri_soundness.specs.Agreement.{ArePointsApart, count}
use Rattle.stark_fri_soundness.specs.AgreementFacts.{polynomials_same}
use Rattle.stark_fri_soundness.specs.RunFacts.{points_apart}

all_counted : (n : ℕ) → count n (λ i. true) ≡ n
unfolding count
all_counted zero = refl
all_counted (suc n) = omega (arith, all_counted n)

module _ {F : Type 0} (field : RingOps F) where
  -- It takes the values of a polynomial of degree below n.
  abbrev IsPlain : ℕ → List F → Type 0
  IsPlain n column = (p : List F) × HasDegreeBelow n p × ((x : F) → value field column x ≡ value field p x)

  abbrev row : List (List F) → F → List F
  row columns x = row_at field (λ c. c) columns x

  heads_same : (a b : List F) (first second : List (List F)) (x : F) → row (a ∷ first) x ≡ row (b ∷ second) x → value field a x ≡ value field b x
  heads_same a b first second x same = (cc)

  tails_same : (a b : List F) (first second : List (List F)) (x : F) → row (a ∷ first) x ≡ row (b ∷ second) x → row first x ≡ row second x
  tails_same a b first second x same = (cc)

  module _ {inverse : F → F} (laws : FieldLaws field inverse) (point : ℕ → F) (n : ℕ) (apart : ArePointsApart n point) where
    column_same : (column known : List F) → IsPlain n column → HasDegreeBelow n known → ((i : ℕ) → i < n → value field column (point i) ≡ value field known (point i)) → (x : F) → value field column x ≡ value field known x
    column_same column known plain below same x =
        plain.2 x ∙ polynomials_same laws point n n (λ i. true) apart (subst (λ m. n ≤ m) (sym (all_counted n)) (omega arith)) plain.0 known plain.1 below (λ i within there. sym (plain.2 (point i)) ∙ same i within) x

    rows_same : (columns known : List (List F)) → length columns ≡ length known → AllByRecursion (IsPlain n) columns → AllByRecursion (HasDegreeBelow n) known
        → ((i : ℕ) → i < n → row columns (point i) ≡ row known (point i)) → (x : F) → row columns x ≡ row known x
    rows_same [] [] counted plain below same x = refl
    rows_same [] (k ∷ known) counted plain below same x = absurd (omega (arith, counted))
    rows_same (c ∷ columns) [] counted plain below same x = absurd (omega (arith, counted))
    rows_same (c ∷ columns) (k ∷ known) counted plain below same x =
        let head : value field c x ≡ value field k x = column_same c k plain.0 below.0 (λ i within. heads_same c k columns known (point i) (same i within)) x in
        let tail : row columns x ≡ row known x = rows_same columns known (omega (arith, counted)) plain.1 below.1 (λ i within. tails_same c k columns known (point i) (same i within)) x in
        (cc)

  module _ {inverse : F → F} (laws : FieldLaws field inverse) (adicity : ℕ) (root : ℕ → F) (generator : F) (two_adic : TwoAdicLaws field adicity root generator) (log_rows : ℕ) (within : log_rows ≤ adicity) (width : ℕ) (declared : ℕ → List F) where
    -- Both have at each point the same row.
    pub same_rows : (columns known : List (List F)) → TakesRows field root (natural_coset field log_rows) width declared columns → TakesRows field root (natural_coset field log_rows) width declared known
        → AllByRecursion (IsPlain (2 ^ log_rows)) columns → AllByRecursion (HasDegreeBelow (2 ^ log_rows)) known → (x : F) → row_at field (λ c. c) columns x ≡ row_at field (λ c. c) known x
    same_rows columns known takes known_takes plain below =
        let coset = natural_coset field log_rows in
        rows_same laws (coset_point field root coset) (2 ^ log_rows) (points_apart laws adicity root generator two_adic coset (record { shift_nonzero = laws.one_not_zero; within = within })) columns known
        (takes.count ∙ sym known_takes.count) plain below (λ i small. sym (takes.rows i small) ∙ known_takes.rows i small)

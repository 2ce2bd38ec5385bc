-- Where tables have the values of known columns, these columns may stand for the polynomials that the tables are near to.
use Rattle.std.proofs.Common.{◌≡◌, ◌∙◌, ap, refl, sym, subst, arith, ℕ, zero, suc, ◌+◌, ◌*◌, ◌<◌, ◌≤◌, List, [], ◌∷◌, length, map, Bool, true}
use Rattle.std.specs.Prelude.{slice_index_or}
use Rattle.std.specs.List.{AllByRecursion}
use Rattle.std.proofs.lemmas.List.{length-map}
use Rattle.stark_support.specs.Embedding.{IsEmbedding}
use Rattle.stark_support.specs.ListFacts.{mapped_or_filler}
use Rattle.stark_support.specs.PointFacts.{all_both}
use Rattle.stark_support.specs.Polynomial.{HasDegreeBelow, value, value_over}
use Rattle.stark_support.specs.Ring.{FieldLaws, RingOps}
use Rattle.stark_folding.specs.ReduceFacts.{value_embedded}
use Rattle.stark_fri_soundness.specs.Agreement.{ArePointsApart, count}
use Rattle.stark_fri_soundness.specs.AgreementFacts.{polynomials_same}
use Rattle.stark_fri_soundness.specs.BaseWords.{BaseClaimsHold}
use Rattle.stark_fri_soundness.specs.Claims.{Claim, ColumnIndex}
use Rattle.stark_fri.specs.Parts.{FriFields}
use Rattle.stark_fri.specs.Words.{column_word}
use Rattle.stark_over_fri.specs.Tables.{ProverTables, columns_for, matrices_for, words_beside}

-- ---- lists

pub all_at : {A : Type 0} (P : A → Type 0) (xs : List A) (filler : A) → AllByRecursion P xs → P filler → (place : ℕ) → P (slice_index_or xs place filler)
all_at P [] filler all fills place = fills
all_at P (x ∷ xs) filler all fills zero = all.0
all_at P (x ∷ xs) filler all fills (suc place) = all_at P xs filler all.1 fills place

-- ---- which column

-- The known column in the first matrix of the third round, and else the near polynomial.
abbrev chosen : {F : Type 0} → (round matrix : ℕ) → List F → List F → List F
chosen zero matrix near known = near
chosen (suc zero) matrix near known = near
chosen (suc (suc round)) zero near known = known
chosen (suc (suc round)) (suc matrix) near known = near

abbrev pub picked : {F : Type 0} → List (List F) → ColumnIndex → List F
picked known column = slice_index_or known column.number []

-- The columns after the first are those of the list after it.
later_columns : {F E : Type 0} (first : List F) (known : List (List F)) (number : ℕ) (row : List E) → columns_for (picked (first ∷ known)) 2 0 (suc number) row ≡ columns_for (picked known) 2 0 number row
later_columns first known number [] = refl
later_columns first known number (v ∷ row) = ap (λ cs. slice_index_or known number [] ∷ cs) (later_columns first known (suc number) row)

pub all_columns : {F E : Type 0} (known : List (List F)) (row : List E) → length row ≡ length known → columns_for (picked known) 2 0 0 row ≡ known
all_columns [] [] same = refl
all_columns [] (v ∷ row) same = absurd (omega (arith, same))
all_columns (first ∷ known) [] same = absurd (omega (arith, same))
all_columns (first ∷ known) (v ∷ row) same = ap (λ cs. first ∷ cs) (later_columns first known 0 row ∙ all_columns known row (omega (arith, same)))

module _ {F : Type 0} (polynomials : ColumnIndex → List F) (known : List (List F)) where
  abbrev pub beside : ColumnIndex → List F
  beside column = chosen column.round column.matrix (polynomials column) (slice_index_or known column.number [])

  module _ {E : Type 0} where
    pub first_columns : (number : ℕ) (row : List E) → columns_for beside 0 0 number row ≡ columns_for polynomials 0 0 number row
    first_columns number [] = refl
    first_columns number (v ∷ row) = ap (λ cs. polynomials (record { round = 0; matrix = 0; number = number }) ∷ cs) (first_columns (suc number) row)

    second_columns : (matrix number : ℕ) (row : List E) → columns_for beside 1 matrix number row ≡ columns_for polynomials 1 matrix number row
    second_columns matrix number [] = refl
    second_columns matrix number (v ∷ row) = ap (λ cs. polynomials (record { round = 1; matrix = matrix; number = number }) ∷ cs) (second_columns matrix (suc number) row)

    pub second_matrices : (matrix : ℕ) (rows : List (List E)) → matrices_for beside 1 matrix rows ≡ matrices_for polynomials 1 matrix rows
    second_matrices matrix [] = refl
    second_matrices matrix (row ∷ rows) =
        ap (λ cs. cs ∷ matrices_for beside 1 (suc matrix) rows) (second_columns matrix 0 row) ∙ ap (λ ms. columns_for polynomials 1 matrix 0 row ∷ ms) (second_matrices (suc matrix) rows)

    third_columns : (number : ℕ) (row : List E) → columns_for beside 2 0 number row ≡ columns_for (picked known) 2 0 number row
    third_columns number [] = refl
    third_columns number (v ∷ row) = ap (λ cs. slice_index_or known number [] ∷ cs) (third_columns (suc number) row)

    -- They are the known columns.
    pub known_columns : (row : List E) → length row ≡ length known → columns_for beside 2 0 0 row ≡ known
    known_columns row same = third_columns 0 row ∙ all_columns known row same

-- ---- claims

module _ {F E : Type 0} (fields : FriFields F E) (laws : FieldLaws fields.ring fields.inverse) (embeds : IsEmbedding fields.base fields.ring fields.embed) where
  embedded_value : (p : List F) (x : F) → value fields.ring (map fields.embed p) (fields.embed x) ≡ fields.embed (value fields.base p x)
  embedded_value [] x = sym embeds.keeps.zero
  embedded_value (c ∷ p) x =
      ap (λ t. fields.ring.add (fields.embed c) (fields.ring.mul t (fields.embed x))) (embedded_value p x)
      ∙ ap (fields.ring.add (fields.embed c)) (sym (embeds.keeps.mul (value fields.base p x) x)) ∙ sym (embeds.keeps.add c (fields.base.mul (value fields.base p x) x))

  module _ (point : ℕ → F) (n d : ℕ) (apart : ArePointsApart n point) (places : ℕ → Bool) (enough : d ≤ count n places) where
    -- Polynomials that agree at enough of the points are equal everywhere.
    pub same_over : (p q : List F) → HasDegreeBelow d p → HasDegreeBelow d q → ((i : ℕ) → i < n → places i ≡ true → value fields.base p (point i) ≡ value fields.base q (point i))
        → (z : E) → value_over fields.ring fields.embed p z ≡ value_over fields.ring fields.embed q z
    same_over p q below_p below_q same z =
        value_embedded fields.ring fields.embed p z
        ∙ polynomials_same laws (λ i. fields.embed (point i)) n d places (λ i j less within is. apart i j less within (embeds.injective (point i) (point j) is)) enough (map fields.embed p) (map fields.embed q)
        (subst (λ l. l ≤ d) (sym (length-map p fields.embed)) below_p) (subst (λ l. l ≤ d) (sym (length-map q fields.embed)) below_q)
        (λ i within is. embedded_value p (point i) ∙ ap fields.embed (same i within is) ∙ sym (embedded_value q (point i))) z
        ∙ sym (value_embedded fields.ring fields.embed q z)

    module _ (known : List (List F)) (fit : AllByRecursion (HasDegreeBelow d) known) (tables : ProverTables F E) where
      abbrev word : (round matrix number : ℕ) → ℕ → F
      word round matrix number = column_word fields (words_beside fields.base point known tables) (record { round = round; matrix = matrix; number = number })

      known_at : (round number place : ℕ) → word (suc (suc round)) 0 number place ≡ value fields.base (slice_index_or known number []) (point place)
      known_at round number place = mapped_or_filler (λ p. value fields.base p (point place)) known number [] fields.base.zero refl

      chosen_same : (round matrix number : ℕ) (near : List F) → HasDegreeBelow d near → ((i : ℕ) → i < n → places i ≡ true → word round matrix number i ≡ value fields.base near (point i))
          → (z : E) → value_over fields.ring fields.embed (chosen round matrix near (slice_index_or known number [])) z ≡ value_over fields.ring fields.embed near z
      chosen_same zero matrix number near below takes z = refl
      chosen_same (suc zero) matrix number near below takes z = refl
      chosen_same (suc (suc round)) (suc matrix) number near below takes z = refl
      chosen_same (suc (suc round)) zero number near below takes z =
          same_over (slice_index_or known number []) near (all_at (HasDegreeBelow d) known [] fit (omega arith) number) below
          (λ i within is. sym (known_at round number i) ∙ takes i within is) z

      -- Claims that are true of near polynomials are true with the known columns among them.
      pub beside_true : (claims : List (Claim ColumnIndex E)) (hold : BaseClaimsHold fields.base fields.ring fields.embed point n d places (column_word fields (words_beside fields.base point known tables)) claims)
          → AllByRecursion (λ claim. value_over fields.ring fields.embed (beside hold.polynomials known claim.column) claim.at ≡ claim.claimed) claims
      beside_true claims hold =
          all_both (λ (claim : Claim ColumnIndex E). (i : ℕ) → i < n → places i ≡ true → column_word fields (words_beside fields.base point known tables) claim.column i ≡ value fields.base (hold.polynomials claim.column) (point i))
          (λ claim. value_over fields.ring fields.embed (hold.polynomials claim.column) claim.at ≡ claim.claimed)
          (λ claim. value_over fields.ring fields.embed (beside hold.polynomials known claim.column) claim.at ≡ claim.claimed)
          (λ claim takes is. chosen_same claim.column.round claim.column.matrix claim.column.number (hold.polynomials claim.column) (hold.degrees claim.column) takes claim.at ∙ is) claims hold.takes hold.are_true

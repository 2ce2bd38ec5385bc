-- Where the rows of a round are the values of known columns, these columns may stand for the polynomials that the tables are near to.
use Rattle.std.proofs.Common.{◌≡◌, ◌∙◌, ◌==◌, ap, refl, sym, subst, arith, ℕ, zero, suc, ◌+◌, ◌<◌, ◌≤◌, Bool, true, false, List, [], ◌∷◌, length, inl, inr, if◌then◌else◌}
use Rattle.std.specs.Prelude.{slice_index_or, nat_lt, map, Option, None, Some, option_map}
use Rattle.std.proofs.lemmas.Bool.{cases_Bool}
use Rattle.std.specs.List.{AllByRecursion}
use Rattle.stark_support.specs.Coset.{TwoAdicCoset}
use Rattle.stark_support.specs.Embedding.{IsEmbedding}
use Rattle.stark_support.specs.ListFacts.{mapped_or_filler}
use Rattle.stark_support.specs.PointFacts.{all_both}
use Rattle.stark_support.specs.Polynomial.{HasDegreeBelow, value, value_over}
use Rattle.stark_support.specs.Ring.{FieldLaws}
use Rattle.stark_merkle.specs.declared.root.Root.{Root}
use Rattle.stark_proof.specs.ProofView.{PreprocessedView}
use Rattle.stark_protocol.specs.OpenedClaims.{preprocessed_rounds}
use Rattle.stark_protocol.specs.declared.preprocessed.PreprocessedVerifierKey.{PreprocessedVerifierKey}
use Rattle.stark_fri_soundness.specs.Agreement.{ArePointsApart, count}
use Rattle.stark_fri_soundness.specs.BaseWords.{BaseClaimsHold}
use Rattle.stark_fri_soundness.specs.Claims.{Claim, ColumnIndex}
use Rattle.stark_fri.specs.Parts.{FriFields}
use Rattle.stark_fri.specs.Words.{Words, column_word}
use Rattle.stark_over_fri.specs.Tables.{columns_for, matrices_for}
use Rattle.stark_over_fri.proofs.BesideSteps.{all_at, all_columns, picked, same_over}
use Rattle.stark_two_part.specs.declared.in_parts.InParts.{InParts}
use Rattle.stark_two_part.specs.declared.in_parts.InParts.TheVariants.{Whole, Parts}
use Rattle.stark_lookup.specs.LookupVerdict.{whole_key}
use Rattle.stark_lookup_over_fri.specs.LookupTables.{preprocessed_round, rows_beside}
use Rattle.stark_lookup_over_fri.specs.PlacesInParts.{in_part, in_parts_from, joined_polynomials}

pub same_number : (n : ℕ) → (n == n) ≡ true
same_number n = grind arith

-- The known column in the first matrix of the round, and else the near polynomial.
abbrev chosen : {F : Type 0} → Bool → (matrix : ℕ) → List F → List F → List F
chosen false matrix near known = near
chosen true zero near known = known
chosen true (suc matrix) near known = near

module _ {F : Type 0} (last : ℕ) (polynomials : ColumnIndex → List F) (known : List (List F)) where
  abbrev pub with_known : ColumnIndex → List F
  with_known column = chosen (column.round == last) column.matrix (polynomials column) (slice_index_or known column.number [])

  -- Columns of another round are the near ones.
  pub column_of_others : (column : ColumnIndex) → (column.round == last) ≡ false → with_known column ≡ polynomials column
  column_of_others column other = ap (λ b. chosen b column.matrix (polynomials column) (slice_index_or known column.number [])) other

  pub columns_of_others : {E : Type 0} (round matrix number : ℕ) (row : List E) → (round == last) ≡ false → columns_for with_known round matrix number row ≡ columns_for polynomials round matrix number row
  columns_of_others round matrix number [] other = refl
  columns_of_others round matrix number (v ∷ row) other =
      ap (λ c. c ∷ columns_for with_known round matrix (suc number) row) (column_of_others (record { round = round; matrix = matrix; number = number }) other)
      ∙ ap (λ cs. polynomials (record { round = round; matrix = matrix; number = number }) ∷ cs) (columns_of_others round matrix (suc number) row other)

  -- Those of this one are the known ones.
  known_column : (number : ℕ) → with_known (record { round = last; matrix = 0; number = number }) ≡ slice_index_or known number []
  known_column number = ap (λ b. chosen b 0 (polynomials (record { round = last; matrix = 0; number = number })) (slice_index_or known number [])) (same_number last)

-- ---- columns of commitments

pub first_elsewhere : {K : Type 0} (quotient_chunks : InParts K) → (0 == preprocessed_round quotient_chunks) ≡ false
first_elsewhere (Whole k) = refl
first_elsewhere (Parts k l) = refl

pub second_elsewhere : {K : Type 0} (quotient_chunks : InParts K) → (1 == preprocessed_round quotient_chunks) ≡ false
second_elsewhere (Whole k) = refl
second_elsewhere (Parts k l) = refl

-- The round of a column of the quotient's chunks isn't that of the preprocessed columns.
chunk_elsewhere : {K : Type 0} (first : ℕ) (quotient_chunks : InParts K) (matrix number : ℕ) → ((in_part first quotient_chunks 2 matrix number).round == preprocessed_round quotient_chunks) ≡ false
chunk_elsewhere first (Whole k) matrix number = refl
chunk_elsewhere first (Parts k l) matrix number = elim (cases_Bool (nat_lt number first)) [
  | inl low ↦ rw low refl
  | inr high ↦ rw high refl
]

module _ {F : Type 0} (first : ℕ) (main others : Root) (quotient_chunks : InParts Root) where
  module _ (rest : List (InParts Root)) (polynomials : ColumnIndex → List F) (known : List (List F)) where
    abbrev joined : (ColumnIndex → List F) → ColumnIndex → List F
    joined ps = joined_polynomials first (Parts main others ∷ quotient_chunks ∷ rest) ps

    chunk_columns : {E : Type 0} (matrix number : ℕ) (row : List E) → columns_for (joined (with_known (preprocessed_round quotient_chunks) polynomials known)) 1 matrix number row ≡ columns_for (joined polynomials) 1 matrix number row
    chunk_columns matrix number [] = refl
    chunk_columns matrix number (v ∷ row) =
        ap (λ c. c ∷ columns_for (joined (with_known (preprocessed_round quotient_chunks) polynomials known)) 1 matrix (suc number) row)
        (column_of_others (preprocessed_round quotient_chunks) polynomials known (in_part first quotient_chunks 2 matrix number) (chunk_elsewhere first quotient_chunks matrix number))
        ∙ ap (λ cs. polynomials (in_part first quotient_chunks 2 matrix number) ∷ cs) (chunk_columns matrix (suc number) row)

    pub chunks_elsewhere : {E : Type 0} (matrix : ℕ) (rows : List (List E)) → matrices_for (joined (with_known (preprocessed_round quotient_chunks) polynomials known)) 1 matrix rows ≡ matrices_for (joined polynomials) 1 matrix rows
    chunks_elsewhere matrix [] = refl
    chunks_elsewhere matrix (row ∷ rows) =
        ap (λ cs. cs ∷ matrices_for (joined (with_known (preprocessed_round quotient_chunks) polynomials known)) 1 (suc matrix) rows) (chunk_columns matrix 0 row)
        ∙ ap (λ ms. columns_for (joined polynomials) 1 matrix 0 row ∷ ms) (chunks_elsewhere (suc matrix) rows)

  module _ {E : Type 0} (coset : TwoAdicCoset F) (zeta next : E) where
    abbrev keys : Option (PreprocessedVerifierKey Root) → Option (PreprocessedView E) → List (InParts Root)
    keys key rows = map (λ claim. claim.0) (preprocessed_rounds coset zeta next (option_map whole_key key) rows)

    -- The preprocessed columns stand in their round.
    in_last : (key : Option (PreprocessedVerifierKey Root)) (rows : Option (PreprocessedView E)) (last matrix number : ℕ) → in_parts_from first last (keys key rows) 0 matrix number ≡ record { round = last; matrix = matrix; number = number }
    in_last None rows last matrix number = refl
    in_last (Some key) None last matrix number = refl
    in_last (Some key) (Some rows) last matrix number = refl

    module _ (key : Option (PreprocessedVerifierKey Root)) (rows : Option (PreprocessedView E)) (polynomials : ColumnIndex → List F) (known : List (List F)) where
      abbrev all_joined_columns : ColumnIndex → List F
      all_joined_columns = joined_polynomials first (Parts main others ∷ quotient_chunks ∷ keys key rows) (with_known (preprocessed_round quotient_chunks) polynomials known)

      known_columns : (number : ℕ) (row : List E) → columns_for all_joined_columns 2 0 number row ≡ columns_for (picked known) 2 0 number row
      known_columns number [] = refl
      known_columns number (v ∷ row) =
          ap (λ c. c ∷ columns_for all_joined_columns 2 0 (suc number) row)
          (ap (with_known (preprocessed_round quotient_chunks) polynomials known) (in_last key rows (preprocessed_round quotient_chunks) 0 number) ∙ known_column (preprocessed_round quotient_chunks) polynomials known number)
          ∙ ap (λ cs. slice_index_or known number [] ∷ cs) (known_columns (suc number) row)

      pub known_joined : (row : List E) → length row ≡ length known → columns_for all_joined_columns 2 0 0 row ≡ known
      known_joined row wide = known_columns 0 row ∙ all_columns known row wide

-- ---- claims

module _ {F E : Type 0} (fields : FriFields F E) (laws : FieldLaws fields.ring fields.inverse) (embeds : IsEmbedding fields.base fields.ring fields.embed) (point : ℕ → F) (n d : ℕ) (apart : ArePointsApart n point) (places : ℕ → Bool) (enough : d ≤ count n places)
    (last : ℕ) (known : List (List F)) (fit : AllByRecursion (HasDegreeBelow d) known) (tables : Words F E) where
  abbrev words_there : Words F E
  words_there = record { rows = rows_beside fields.base point last known tables.rows; folds = tables.folds }

  abbrev word : ColumnIndex → ℕ → F
  word column = column_word fields words_there column

  known_at : (round number place : ℕ) → (round == last) ≡ true → word (record { round = round; matrix = 0; number = number }) place ≡ value fields.base (slice_index_or known number []) (point place)
  known_at round number place is = rw is (mapped_or_filler (λ p. value fields.base p (point place)) known number [] fields.base.zero refl)

  chosen_same : (b : Bool) (round matrix number : ℕ) → (round == last) ≡ b → (near : List F) → HasDegreeBelow d near
      → ((i : ℕ) → i < n → places i ≡ true → word (record { round = round; matrix = matrix; number = number }) i ≡ value fields.base near (point i))
      → (z : E) → value_over fields.ring fields.embed (chosen b matrix near (slice_index_or known number [])) z ≡ value_over fields.ring fields.embed near z
  chosen_same false round matrix number is near below takes z = refl
  chosen_same true round (suc matrix) number is near below takes z = refl
  chosen_same true round zero number is near below takes z =
      same_over fields laws embeds point n d apart places enough (slice_index_or known number []) near (all_at (HasDegreeBelow d) known [] fit (omega arith) number) below
      (λ i within there. sym (known_at round number i is) ∙ takes i within there) z

  -- Claims that are true of near polynomials are true with the known columns among them.
  pub known_true : (claims : List (Claim ColumnIndex E)) (hold : BaseClaimsHold fields.base fields.ring fields.embed point n d places (column_word fields words_there) claims)
      → AllByRecursion (λ claim. value_over fields.ring fields.embed (with_known last hold.polynomials known claim.column) claim.at ≡ claim.claimed) claims
  known_true claims hold =
      all_both (λ (claim : Claim ColumnIndex E). (i : ℕ) → i < n → places i ≡ true → column_word fields words_there claim.column i ≡ value fields.base (hold.polynomials claim.column) (point i))
      (λ claim. value_over fields.ring fields.embed (hold.polynomials claim.column) claim.at ≡ claim.claimed)
      (λ claim. value_over fields.ring fields.embed (with_known last hold.polynomials known claim.column) claim.at ≡ claim.claimed)
      (λ claim takes is.
      chosen_same (claim.column.round == last) claim.column.round claim.column.matrix claim.column.number refl (hold.polynomials claim.column) (hold.degrees claim.column) takes claim.at ∙ is) claims hold.takes hold.are_true

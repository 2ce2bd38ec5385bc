-- Chunks without masks are chunks of the quotient.
use Rattle.std.specs.Prelude.{◌≡◌, ℕ, zero, suc, ◌+◌, ◌*◌, ◌-◌, ◌^◌, ◌<◌, ◌≤◌, false, List, [], ◌∷◌, ◌++◌, map, length, All, Some, option_map, refl}
use Rattle.std.specs.Int.{IsPowerOfTwo}
use Rattle.std.specs.List.{AllByRecursion, slice_get, slice_index_or}
use Rattle.std.proofs.Common.{inl, inr, get_or, sym, ap, ◌∙◌, arith, subst}
use Rattle.std.proofs.lemmas.Option.{same_Some, slice_get-get_or, slice_get-map}
use Rattle.std.proofs.lemmas.List.{length-map}
use Rattle.stark_columns.specs.ColumnPoints.{AreColumns}
use Rattle.stark_columns.specs.RowFacts.{all_listed, cell_of_part_fits, place_in_part, row_of_part_fits, size_in_parts, takes_rows}
use Rattle.stark_support.specs.ListFacts.{no_such, one_more_number}
use Rattle.stark_support.specs.LogarithmFacts.{same_exponent}
use Rattle.stark_dft.specs.SplitFacts.{nothing_there, seen}
use Rattle.stark_support.specs.Ring.{RingOps, RingLaws}
use Rattle.stark_support.specs.RingFacts.{mul_zero}
use Rattle.stark_support.specs.Coset.{TwoAdicCoset, coset_part, coset_size, coset_vanishing}
use Rattle.stark_support.specs.Polynomial.{value_over}
use Rattle.stark_support.specs.Recomposition.{lagrange_weight, weighted_sum_from}
use Rattle.stark_support.specs.Scheme.{AreQuotientChunks, IsChunk, IsMasked, QuotientChunk, TakesRows, committed_chunk, matrix_row}
use Rattle.stark_columns.specs.Columns.{IsFull, columns_of}
use Rattle.stark_columns.specs.PlainChunks.{ArePlainChunks, plain_chunk, plain_chunks, plain_column}

module _ {F E : Type 0} (field : RingOps F) {ring : RingOps E} (laws : RingLaws ring) (inverse : E → E) (embed : F → E) where
  no_mask : (v z : E) → v ≡ ring.add v (ring.mul ring.zero z)
  no_mask v z = sym (laws.add_zero v) ∙ ap (ring.add v) (sym (laws.mul_comm ring.zero z ∙ mul_zero laws z))

  plain_is_masked : (part : TwoAdicCoset F) (p : List F) → length p ≡ coset_size part → IsMasked field ring inverse embed false part (plain_column p)
  plain_is_masked part p number = record {
    plain_degree = omega (arith, number);
    mask_degree = omega arith;
    unmasked = λ _. tt;
    sum = λ x. no_mask (value_over ring embed p x) (coset_vanishing ring (λ c. c) inverse (coset_size part) (embed part.shift) x);
  }

  plain_are_masked : (part : TwoAdicCoset F) (columns : List (List F)) → AllByRecursion (λ column. length column ≡ coset_size part) columns → All (IsMasked field ring inverse embed false part) (map plain_column columns)
  plain_are_masked part [] full k d below = absurd (omega arith)
  plain_are_masked part (p ∷ columns) full zero d below = plain_is_masked part p full.0
  plain_are_masked part (p ∷ columns) full (suc k) d below = plain_are_masked part columns full.1 k d (omega arith)

  same_plain : (columns : List (List F)) → map (λ m. m.plain) (map plain_column columns) ≡ columns
  same_plain [] = refl
  same_plain (p ∷ columns) = ap (λ t. p ∷ t) (same_plain columns)

  same_committed : (columns : List (List F)) → map (λ m. m.column) (map plain_column columns) ≡ columns
  same_committed [] = refl
  same_committed (p ∷ columns) = ap (λ t. p ∷ t) (same_committed columns)

  -- ---- what masks of zero sum to
  zero_at : (columns : List (List F)) (c : ℕ) (x : E) → value_over ring embed (slice_index_or (map (λ m. m.mask) (map plain_column columns)) c []) x ≡ ring.zero
  zero_at [] c x = refl
  zero_at (p ∷ columns) zero x = refl
  zero_at (p ∷ columns) (suc c) x = zero_at columns c x

  no_term : (weight sum : E) → sum ≡ ring.zero → ring.add (ring.mul weight ring.zero) sum ≡ ring.zero
  no_term weight sum e = ap (ring.add (ring.mul weight ring.zero)) e ∙ laws.add_zero _ ∙ mul_zero laws weight

  module _ (root : ℕ → F) (coset : TwoAdicCoset F) (log_parts c : ℕ) (x : E) where
    abbrev mask_values : ℕ → List (List (List F)) → List E
    mask_values i matrices = map (λ q. value_over ring embed (slice_index_or (map (λ m. m.mask) q.columns) c []) x) (plain_chunks field root coset log_parts i matrices)

    nothing_masked : (n : ℕ) (before shifts : List E) (i : ℕ) (matrices : List (List (List F))) → weighted_sum_from ring inverse n before shifts (mask_values i matrices) ≡ ring.zero
    nothing_masked n before [] i matrices = refl
    nothing_masked n before (s ∷ shifts) i [] = refl
    nothing_masked n before (s ∷ shifts) i (columns ∷ matrices) =
        ap (λ v. ring.add (ring.mul (lagrange_weight ring inverse n (before ++ shifts) s) v) (weighted_sum_from ring inverse n (before ++ (s ∷ [])) shifts (mask_values (suc i) matrices))) (zero_at columns c x)
        ∙ no_term (lagrange_weight ring inverse n (before ++ shifts) s) _ (nothing_masked n (before ++ (s ∷ [])) shifts (suc i) matrices)

  module _ (root : ℕ → F) (coset : TwoAdicCoset F) (log_parts : ℕ) where
    number_of_chunks : (i : ℕ) (matrices : List (List (List F))) → length (plain_chunks field root coset log_parts i matrices) ≡ length matrices
    number_of_chunks i [] = refl
    number_of_chunks i (columns ∷ matrices) = ap suc (number_of_chunks (suc i) matrices)

    next_place : (i j : ℕ) → suc i + j ≡ i + suc j
    next_place i j = omega arith

    first_place : (i : ℕ) → i ≡ i + 0
    first_place i = omega arith

    -- Chunk j from the i-th part on is that of the columns at its place.
    chunk_there : (i : ℕ) (matrices : List (List (List F))) (j : ℕ) (q : QuotientChunk F) → slice_get (plain_chunks field root coset log_parts i matrices) j ≡ Some q
        → (columns : List (List F)) × (slice_get matrices j ≡ Some columns) × (q ≡ plain_chunk (coset_part field root coset log_parts (i + j)) columns)
    chunk_there i [] j q there = absurd (no_such j q there)
    chunk_there i (columns ∷ matrices) zero q there =
        (columns, refl, sym (same_Some _ _ there) ∙ ap (λ k. plain_chunk (coset_part field root coset log_parts k) columns) (first_place i))
    chunk_there i (columns ∷ matrices) (suc j) q there =
        let later = chunk_there (suc i) matrices j q there in
        (later.0, later.1, later.2 ∙ ap (λ k. plain_chunk (coset_part field root coset log_parts k) later.0) (next_place i j))

    pub committed_columns : (i : ℕ) (matrices : List (List (List F))) → columns_of (map (committed_chunk field false) (plain_chunks field root coset log_parts i matrices)) ≡ matrices
    committed_columns i [] = refl
    committed_columns i (columns ∷ matrices) =
        ap (λ t. t ∷ columns_of (map (committed_chunk field false) (plain_chunks field root coset log_parts (suc i) matrices))) (same_committed columns)
        ∙ ap (λ t. columns ∷ t) (committed_columns (suc i) matrices)

    chunk_is : (width : ℕ) (row : ℕ → List F) (i : ℕ) (columns : List (List F)) → AllByRecursion (λ column. length column ≡ coset_size (coset_part field root coset log_parts i)) columns
        → TakesRows field root (coset_part field root coset log_parts i) width (λ r. row (i + r * 2 ^ log_parts)) columns
        → IsChunk field root ring inverse embed false coset log_parts width row i (plain_chunk (coset_part field root coset log_parts i) columns)
    chunk_is width row i columns full takes = record {
      part = refl;
      masked = plain_are_masked (coset_part field root coset log_parts i) columns full;
      takes = subst (TakesRows field root (coset_part field root coset log_parts i) width (λ r. row (i + r * 2 ^ log_parts))) (sym (same_plain columns)) takes;
    }

    from_none : (i : ℕ) → 0 + i ≡ i
    from_none i = omega arith

    pub are_quotient_chunks : (width : ℕ) (row : ℕ → List F) (matrices : List (List (List F))) → ArePlainChunks field root coset log_parts width (2 ^ log_parts) row matrices
        → AreQuotientChunks field root ring inverse embed false coset log_parts width row (plain_chunks field root coset log_parts 0 matrices)
    are_quotient_chunks width row matrices plain = record {
      number = number_of_chunks 0 matrices ∙ plain.number;
      chunk = λ i q there.
          let w = chunk_there 0 matrices i q there in
          subst (IsChunk field root ring inverse embed false coset log_parts width row i) (sym (w.2 ∙ ap (λ k. plain_chunk (coset_part field root coset log_parts k) w.0) (from_none i)))
          (chunk_is width row i w.0 (plain.full i w.0 w.1) (plain.takes i w.0 w.1));
      cancels = λ c x below. nothing_masked root coset log_parts c x (2 ^ (coset.log_size - log_parts)) [] (map (λ q. embed q.part.shift) (plain_chunks field root coset log_parts 0 matrices)) 0 matrices;
    }

    no_bit : (k : ℕ) → 2 ^ k ≡ 2 ^ (k + 0)
    no_bit k = ap (λ n. 2 ^ n) (first_place k)

    full_from : (i : ℕ) (matrices : List (List (List F)))
        → ((j : ℕ) (columns : List (List F)) → slice_get matrices j ≡ Some columns → AllByRecursion (λ column. length column ≡ coset_size (coset_part field root coset log_parts (i + j))) columns)
        → AllByRecursion IsFull (map (committed_chunk field false) (plain_chunks field root coset log_parts i matrices))
    full_from i [] full = tt
    full_from i (columns ∷ matrices) full = (
      subst (λ n. AllByRecursion (λ column. length column ≡ n) (map (λ m. m.column) (map plain_column columns))) (no_bit (coset.log_size - log_parts))
          (subst (AllByRecursion (λ column. length column ≡ 2 ^ (coset.log_size - log_parts))) (sym (same_committed columns)) (full 0 columns refl)),
      full_from (suc i) matrices (λ j later there. subst (λ k. AllByRecursion (λ column. length column ≡ coset_size (coset_part field root coset log_parts k)) later) (sym (next_place i j)) (full (suc j) later there)),
    )

    pub full_chunks : (width count : ℕ) (row : ℕ → List F) (matrices : List (List (List F))) → ArePlainChunks field root coset log_parts width count row matrices
        → AllByRecursion IsFull (map (committed_chunk field false) (plain_chunks field root coset log_parts 0 matrices))
    full_chunks width count row matrices plain =
        full_from 0 matrices (λ j columns there. subst (λ k. AllByRecursion (λ column. length column ≡ coset_size (coset_part field root coset log_parts k)) columns) (sym (from_none j)) (plain.full j columns there))

module _ {F : Type 0} (field : RingOps F) (root : ℕ → F) (coset : TwoAdicCoset F) (log_parts width : ℕ) (row : ℕ → List F) where
  pub no_chunks : (matrices : List (List (List F))) → matrices ≡ [] → ArePlainChunks field root coset log_parts width 0 row matrices
  no_chunks matrices e = record {
    number = ap length e;
    full = λ i columns there. absurd (nothing_there matrices i columns e there);
    takes = λ i columns there. absurd (nothing_there matrices i columns e there);
  }

  pub one_more_chunk : (n : ℕ) (matrices after : List (List (List F))) (columns : List (List F)) → ArePlainChunks field root coset log_parts width n row matrices
      → AllByRecursion (λ column. length column ≡ coset_size (coset_part field root coset log_parts n)) columns
      → TakesRows field root (coset_part field root coset log_parts n) width (λ r. row (n + r * 2 ^ log_parts)) columns → after ≡ matrices ++ columns ∷ []
      → ArePlainChunks field root coset log_parts width (n + 1) row after
  one_more_chunk n matrices after columns so_far full takes pushed = record {
    number = one_more_number matrices after columns n so_far.number pushed;
    full = λ i others there. elim (seen matrices after columns others n i so_far.number pushed there) [
      | inl w ↦ subst (λ k. AllByRecursion (λ column. length column ≡ coset_size (coset_part field root coset log_parts k)) others) (sym w.0) (subst (AllByRecursion (λ column. length column ≡ coset_size (coset_part field root coset log_parts n))) (sym w.1) full)
      | inr w ↦ so_far.full i others w
    ];
    takes = λ i others there. elim (seen matrices after columns others n i so_far.number pushed there) [
      | inl w ↦ subst (λ k. TakesRows field root (coset_part field root coset log_parts k) width (λ r. row (k + r * 2 ^ log_parts)) others) (sym w.0) (subst (TakesRows field root (coset_part field root coset log_parts n) width (λ r. row (n + r * 2 ^ log_parts))) (sym w.1) takes)
      | inr w ↦ so_far.takes i others w
    ];
  }

-- What stands in a list stands under a map in its image.
pub image_there : {A B : Type 0} (f : A → B) (xs ys : List A) (i n : ℕ) (x : A) (y : B) → ys ≡ xs → length (map f xs) ≡ n → i < n → x ≡ get_or ys i x → slice_get (map f xs) i ≡ Some y → f x ≡ y
image_there f xs ys i n x y same number below is there =
    let long : i < length ys = omega (arith, ap length same, sym (length-map xs f), number, below) in
    same_Some (f x) y (sym (slice_get-map f xs i ∙ ap (λ t. option_map f (slice_get t i)) (sym same) ∙ ap (option_map f) (slice_get-get_or ys i x long ∙ ap Some (sym is))) ∙ there)

module _ {F : Type 0} (field : RingOps F) (root : ℕ → F) (coset part : TwoAdicCoset F) (k i num width : ℕ) (values : List F)
    (is_part : part ≡ coset_part field root coset k i) (power : 2 ^ k ≡ num) (within : k ≤ coset.log_size) (below : i < num) (whole : length values ≡ coset_size coset * width) where
  rows_of_part : coset_size part ≡ 2 ^ (coset.log_size - k)
  rows_of_part = ap coset_size is_part

  all_values : length values ≡ 2 ^ (coset.log_size - k) * num * width
  all_values = whole ∙ ap (λ n. n * width) (size_in_parts coset.log_size k within ∙ ap (λ n. 2 ^ (coset.log_size - k) * n) power)

  pub part_cell : (c r : ℕ) → c < width → r < coset_size part → i * width + c + r * (num * width) < length values
  part_cell c r inside row = cell_of_part_fits i r num (2 ^ (coset.log_size - k)) width c (length values) below (omega (arith, rows_of_part, row)) inside all_values

  pub part_rows : (size : ℕ) (columns : List (List F)) → AreColumns field root part values (i * width) (num * width) width size columns
      → TakesRows field root (coset_part field root coset k i) width (λ r. matrix_row values width (i + r * 2 ^ k)) columns
  part_rows size columns are =
      subst (λ d. TakesRows field root d width (λ r. matrix_row values width (i + r * 2 ^ k)) columns) is_part
      (subst (λ n. TakesRows field root part width (λ r. matrix_row values width (i + r * n)) columns) (sym power)
      (takes_rows field root part values (i * width) (num * width) width size columns are (λ r. i + r * num) (λ r c. place_in_part i r num width c)
      (λ r row. row_of_part_fits i r num (2 ^ (coset.log_size - k)) width (length values) below (omega (arith, rows_of_part, row)) all_values)))

  pub part_full : (size : ℕ) (columns : List (List F)) → size ≡ coset_size part → AreColumns field root part values (i * width) (num * width) width size columns
      → AllByRecursion (λ column. length column ≡ coset_size (coset_part field root coset k i)) columns
  part_full size columns sized are =
      all_listed (λ column. length column ≡ coset_size (coset_part field root coset k i)) columns (λ c p there. are.column c p there ∙ sized ∙ rows_of_part)

-- Plain chunks are chunks of the quotient, committed by these columns.
pub chunks_are : {F E : Type 0} (field : RingOps F) {ring : RingOps E} (laws : RingLaws ring) (inverse : E → E) (embed : F → E) (root : ℕ → F) (coset : TwoAdicCoset F) (num width : ℕ) (row : ℕ → List F)
    (matrices : List (List (List F))) → IsPowerOfTwo num → ((k : ℕ) → 2 ^ k ≡ num → ArePlainChunks field root coset k width num row matrices)
    → (chunks : List (QuotientChunk F)) × (matrices ≡ columns_of (map (committed_chunk field false) chunks)) × AllByRecursion IsFull (map (committed_chunk field false) chunks)
    × ((k : ℕ) → 2 ^ k ≡ num → AreQuotientChunks field root ring inverse embed false coset k width row chunks)
chunks_are field {ring = ring} laws inverse embed root coset num width row matrices (log_parts, power) plain =
    let here = plain log_parts (sym power) in (
      plain_chunks field root coset log_parts 0 matrices,
      sym (committed_columns field laws inverse embed root coset log_parts 0 matrices),
      full_chunks field laws inverse embed root coset log_parts width num row matrices here,
      λ k same.
          let e : log_parts ≡ k = same_exponent log_parts k (sym power ∙ sym same) in
          subst (λ j. AreQuotientChunks field root ring inverse embed false coset j width row (plain_chunks field root coset log_parts 0 matrices)) e
          (are_quotient_chunks field laws inverse embed root coset log_parts width row matrices
          (subst (λ n. ArePlainChunks field root coset log_parts width n row matrices) power here)),
    )

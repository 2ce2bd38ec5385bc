-- Chunks that are masked one after the other.
use Rattle.std.proofs.Common.{◌≡◌, ◌∙◌, ℕ, ◌+◌, ◌-◌, ◌/◌, ◌^◌, ◌<◌, ◌≤◌, List, [], ◌∷◌, ◌++◌, length, map, drop, get_or, refl, sym, ap, append_assoc, subst}
use Rattle.std.specs.Prelude.{Some}
use Rattle.std.specs.Simd.Lanes.{zip2}
use Rattle.std.proofs.Math.Nat.{mul-div_cancel}
use Rattle.std.proofs.lemmas.List.{append-nil, drop_all, length-append}
use Rattle.std.proofs.lemmas.Nat.{pow_pos}
use Rattle.stark_support.specs.Ring.{RingOps}
use Rattle.stark_support.specs.Coset.{AreParts, TwoAdicCoset, coset_part}
use Rattle.stark_support.proofs.Places.{from_place}
use Rattle.stark_clear.specs.Masks.{AreMaskedChunks, balancing_masks, chunk_columns, chunk_masks, masked_chunks, masked_column, masked_polynomial, quotient_masks, range, vanishing_scale}
use Rattle.stark_columns.specs.PlainChunks.{ArePlainChunks}
use Rattle.stark_columns.specs.RowFacts.{size_in_parts}
use Rattle.stark_clear.proofs.MaskSteps.{chunks_length}
use Rattle.stark_clear.proofs.Ranges.{from_zero, listed_range}

module _ {F : Type 0} (field : RingOps F) where
  -- what is committed of masked columns
  pub columns_of_masked : (scale : F) (plain masks : List (List F)) → map (λ m. m.column) (zip2 (masked_column field scale) plain masks) ≡ zip2 (masked_polynomial field scale) plain masks
  columns_of_masked scale [] masks = refl
  columns_of_masked scale (p ∷ plain) [] = refl
  columns_of_masked scale (p ∷ plain) (m ∷ masks) = ap (λ t. masked_polynomial field scale p m ∷ t) (columns_of_masked scale plain masks)

  module _ (inverse : F → F) {D V : Type 0} (part : D → TwoAdicCoset F) (lists : V → List (List F)) (parts : List D) (plain masks : List V) (i : ℕ) where
    abbrev pub left_to_mask : ℕ → List (List (List F))
    left_to_mask k = chunk_columns (masked_chunks field inverse (map part (drop k parts)) (map lists (drop k plain)) (map lists (drop k masks)))

    pub one_more_masked : (d : D) (p m : V) (done after whole : List (List (List F))) (columns : List (List F)) → i < length parts → i < length plain → i < length masks
        → d ≡ get_or parts i d → p ≡ get_or plain i p → m ≡ get_or masks i m → columns ≡ zip2 (masked_polynomial field (vanishing_scale field inverse (part d))) (lists p) (lists m) → after ≡ done ++ columns ∷ []
        → done ++ left_to_mask i ≡ whole → after ++ left_to_mask (i + 1) ≡ whole
    one_more_masked d p m done after whole columns in_parts in_plain in_masks is_d is_p is_m are pushed so_far =
        ap (λ t. t ++ left_to_mask (i + 1)) (pushed ∙ ap (λ t. done ++ t ∷ []) (are ∙ sym (columns_of_masked (vanishing_scale field inverse (part d)) (lists p) (lists m))))
        ∙ append_assoc done (map (λ c. c.column) (zip2 (masked_column field (vanishing_scale field inverse (part d))) (lists p) (lists m)) ∷ []) (left_to_mask (i + 1))
        ∙ ap (λ t. done ++ chunk_columns (masked_chunks field inverse (part d ∷ map part (drop (i + 1) parts)) (lists p ∷ map lists (drop (i + 1) plain)) (map lists t))) (sym (from_place masks i (i + 1) m refl in_masks is_m))
        ∙ ap (λ t. done ++ chunk_columns (masked_chunks field inverse (part d ∷ map part (drop (i + 1) parts)) (map lists t) (map lists (drop i masks)))) (sym (from_place plain i (i + 1) p refl in_plain is_p))
        ∙ ap (λ t. done ++ chunk_columns (masked_chunks field inverse (map part t) (map lists (drop i plain)) (map lists (drop i masks)))) (sym (from_place parts i (i + 1) d refl in_parts is_d))
        ∙ so_far

    pub all_masked : (done whole : List (List (List F))) → length parts ≤ i → done ++ left_to_mask i ≡ whole → done ≡ whole
    all_masked done whole ended so_far =
        sym (append-nil done)
        ∙ ap (λ t. done ++ chunk_columns (masked_chunks field inverse (map part t) (map lists (drop i plain)) (map lists (drop i masks)))) (sym (drop_all i parts ended)) ∙ so_far

-- ---- what is made of computed parts

pub quotient_length : {F : Type 0} (field : RingOps F) (masks : List F) (count width size : ℕ) → length (quotient_masks field masks count width size) ≡ count + 1
quotient_length field masks count width size =
    length-append (chunk_masks field masks 0 count width size) (balancing_masks field (chunk_masks field masks 0 count width size) size width ∷ []) ∙ ap (λ n. n + 1) (chunks_length field masks 0 count width size)

-- the size of each part
pub part_size : (k p num size : ℕ) → p ≤ k → 2 ^ p ≡ num → size ≡ 2 ^ k / num → size ≡ 2 ^ (k - p)
part_size k p num size within power e =
    e ∙ ap (λ n. 2 ^ k / n) (sym power) ∙ ap (λ n. n / 2 ^ p) (size_in_parts k p within) ∙ mul-div_cancel (2 ^ (k - p)) (pow_pos p)

pub masked_made : {F : Type 0} (field : RingOps F) (inverse : F → F) (root : ℕ → F) (coset : TwoAdicCoset F) (k num width size : ℕ) (row : ℕ → List F) (numbers : List F) (parts : List (TwoAdicCoset F)) (plain masks matrices : List (List (List F)))
    → k ≤ coset.log_size → 2 ^ k ≡ num → AreParts field root coset k parts → ArePlainChunks field root coset k width num row plain → masks ≡ quotient_masks field numbers (num - 1) width size → size ≡ 2 ^ coset.log_size / num
    → matrices ≡ chunk_columns (masked_chunks field inverse parts plain masks)
    → AreMaskedChunks field inverse root coset k width row (quotient_masks field numbers (num - 1) width (2 ^ (coset.log_size - k))) plain matrices
masked_made field inverse root coset k num width size row numbers parts plain masks matrices within power are takes is_masks is_size made = record {
  takes = subst (λ n. ArePlainChunks field root coset k width n row plain) (sym power) takes;
  sum = made ∙ ap (λ t. chunk_columns (masked_chunks field inverse t plain masks)) (listed_range (coset_part field root coset k) 0 (2 ^ k) parts are.number (λ i below. are.part i below ∙ ap (λ j. Some (coset_part field root coset k j)) (from_zero i)))
      ∙ ap (λ t. chunk_columns (masked_chunks field inverse (range (coset_part field root coset k) 0 (2 ^ k)) plain t)) (is_masks ∙ ap (quotient_masks field numbers (num - 1) width) (part_size coset.log_size k num size within power is_size));
}

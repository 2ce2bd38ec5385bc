-- Chunks with masks that sum to zero are chunks of the quotient.
use Rattle.std.proofs.Common.{◌≡◌, ◌≢◌, ◌∙◌, ℕ, zero, suc, ◌+◌, ◌-◌, ◌*◌, ◌^◌, ◌<◌, ◌≤◌, true, List, [], ◌∷◌, ◌++◌, length, map, get_or, replicate, refl, sym, ap, arith, subst, add-one}
use Rattle.std.specs.Prelude.{Some, slice_index_or}
use Rattle.std.specs.Int.{IsPowerOfTwo}
use Rattle.std.specs.List.{AllByRecursion, slice_get}
use Rattle.std.specs.Simd.Lanes.{zip2}
use Rattle.std.proofs.lemmas.Bool.{false≢true}
use Rattle.std.proofs.lemmas.List.{length-map, length-replicate, map-append}
use Rattle.std.proofs.lemmas.List.Elements.{All-from_recursion}
use Rattle.std.proofs.lemmas.Nat.{pow_pos}
use Rattle.std.proofs.lemmas.Option.{same_Some}
use Rattle.stark_support.specs.ListFacts.{no_such}
use Rattle.stark_support.specs.Ring.{RingOps, FieldLaws, difference}
use Rattle.stark_support.specs.Embedding.{IsEmbedding}
use Rattle.stark_support.specs.KeepsRing.{kept_power}
use Rattle.stark_support.specs.LogarithmFacts.{exponent_at_most, same_exponent}
use Rattle.stark_support.specs.Powers.{power}
use Rattle.stark_support.specs.PowerFacts.{double, power-add, power-mul, power-power}
use Rattle.stark_support.specs.Polynomial.{polynomial_ring, value_over}
use Rattle.stark_support.specs.TwoAdic.{TwoAdicLaws}
use Rattle.stark_support.specs.Coset.{IsTwoAdicCoset, TwoAdicCoset, coset_part, coset_point, coset_size}
use Rattle.stark_support.specs.CosetFacts.{point_nonzero, root_has_order}
use Rattle.stark_support.specs.SubgroupFacts.{embedded_nonzero}
use Rattle.stark_support.specs.Recomposition.{weighted_sum}
use Rattle.stark_support.specs.Scheme.{AreQuotientChunks, IsChunk, IsMasked, QuotientChunk, TakesRows, committed_chunk}
use Rattle.stark_columns.specs.Columns.{IsFull, columns_of}
use Rattle.stark_clear.specs.Masks.{AreMaskedChunks, HasMasks, balancing_mask, balancing_masks, chunk_columns, chunk_masks, less_all, masked_chunk, masked_chunks, masked_column, quotient_masks, range, vanishing_scale}
use Rattle.stark_columns.specs.PlainChunks.{ArePlainChunks}
use Rattle.stark_columns.specs.RowFacts.{all_listed, size_in_parts}
use Rattle.stark_clear.proofs.BalancingSteps.{masks_at}
use Rattle.stark_clear.proofs.MaskSteps.{chunks_have_masks}
use Rattle.stark_clear.proofs.MaskValues.{balanced_value_over, masked_on_coset, total, total_of_append}
use Rattle.stark_clear.proofs.MaskedChunkSteps.{columns_of_masked, quotient_length}
use Rattle.stark_clear.proofs.MaskedColumns.{off_length}
use Rattle.stark_clear.proofs.MaskedRows.{masked_lengths}
use Rattle.stark_clear.proofs.PartWeights.{weighted_zero}
use Rattle.stark_clear.proofs.Ranges.{first_place, from_zero, later_place, range_at, range_length}

twice : (k : ℕ) → 2 ^ k + 2 ^ k ≡ 2 ^ (k + 1)
twice k = double k ∙ ap (λ n. 2 ^ n) (sym (add-one k))

times_turned : (e n : ℕ) → e * n ≡ n * e
times_turned e n = omega arith

-- ---- the masks of the last chunk

module _ {F : Type 0} (field : RingOps F) where
  less_all_length : (size : ℕ) (p : List F) (qs : List (List F)) → length p ≡ size → AllByRecursion (λ q. length q ≡ size) qs → length (less_all field p qs) ≡ size
  less_all_length size p [] number each = number
  less_all_length size p (q ∷ qs) number each =
      less_all_length size (difference (polynomial_ring field) p q) qs (off_length field p q (omega (arith, number, each.0)) ∙ number) each.1

  chosen_lengths : (c size : ℕ) (chosen : List (List (List F))) → AllByRecursion (λ masks. (c < length masks) × (length (get_or masks c []) ≡ size)) chosen → AllByRecursion (λ q. length q ≡ size) (map (λ masks. get_or masks c []) chosen)
  chosen_lengths c size [] each = tt
  chosen_lengths c size (masks ∷ chosen) each = (each.0.1, chosen_lengths c size chosen each.1)

  balancing_full : (chosen : List (List (List F))) (size c width whole : ℕ) → AllByRecursion (HasMasks whole size) chosen → c + width ≤ whole → AllByRecursion (λ mask. length mask ≡ size) (range (balancing_mask field chosen size) c width)
  balancing_full chosen size c zero whole each h = tt
  balancing_full chosen size c (suc width) whole each h = (
    less_all_length size (replicate size field.zero) (map (λ masks. get_or masks c []) chosen) (length-replicate size field.zero) (chosen_lengths c size chosen (masks_at c whole size chosen each (omega (arith, h)))),
    balancing_full chosen size (suc c) width whole each (omega (arith, h)),
  )

  joined_have_masks : (width size : ℕ) (chosen : List (List (List F))) (last : List (List F)) → AllByRecursion (HasMasks width size) chosen → HasMasks width size last → AllByRecursion (HasMasks width size) (chosen ++ last ∷ [])
  joined_have_masks width size [] last each h = (h, tt)
  joined_have_masks width size (masks ∷ chosen) last each h = (each.0, joined_have_masks width size chosen last each.1 h)

  pub quotient_has_masks : (masks : List F) (count width size : ℕ) → AllByRecursion (HasMasks width size) (quotient_masks field masks count width size)
  quotient_has_masks masks count width size =
      let chosen = chunk_masks field masks 0 count width size in
      joined_have_masks width size chosen (balancing_masks field chosen size width) (chunks_have_masks field masks 0 count width size)
      (range_length (balancing_mask field chosen size) 0 width, balancing_full chosen size 0 width width (chunks_have_masks field masks 0 count width size) (omega arith))

-- ---- columns that are masked

module _ {F : Type 0} (field : RingOps F) (scale : F) where
  plain_of_masked : (plain masks : List (List F)) → length plain ≡ length masks → map (λ m. m.plain) (zip2 (masked_column field scale) plain masks) ≡ plain
  plain_of_masked [] masks h = refl
  plain_of_masked (p ∷ plain) [] h = absurd (omega arith)
  plain_of_masked (p ∷ plain) (m ∷ masks) h = ap (λ t. p ∷ t) (plain_of_masked plain masks (omega arith))

  masks_of_masked : (plain masks : List (List F)) → length plain ≡ length masks → map (λ m. m.mask) (zip2 (masked_column field scale) plain masks) ≡ masks
  masks_of_masked [] [] h = refl
  masks_of_masked [] (m ∷ masks) h = absurd (omega arith)
  masks_of_masked (p ∷ plain) [] h = absurd (omega arith)
  masks_of_masked (p ∷ plain) (m ∷ masks) h = ap (λ t. m ∷ t) (masks_of_masked plain masks (omega arith))

module _ {F E : Type 0} {field : RingOps F} {base_inverse : F → F} {ring : RingOps E} {inverse : E → E} {embed : F → E} (base_laws : FieldLaws field base_inverse) (laws : FieldLaws ring inverse) (embeds : IsEmbedding field ring embed)
    (adicity : ℕ) (root : ℕ → F) (generator : F) (two_adic : TwoAdicLaws field adicity root generator) where
  are_masked : (part : TwoAdicCoset F) (plain masks : List (List F)) → part.shift ≢ field.zero → AllByRecursion (λ p. length p ≡ coset_size part) plain → AllByRecursion (λ m. length m ≡ coset_size part) masks
      → AllByRecursion (IsMasked field ring inverse embed true part) (zip2 (masked_column field (vanishing_scale field base_inverse part)) plain masks)
  are_masked part [] masks nonzero full fit = tt
  are_masked part (p ∷ plain) [] nonzero full fit = tt
  are_masked part (p ∷ plain) (m ∷ masks) nonzero full fit = (
    record {
      plain_degree = omega (arith, full.0);
      mask_degree = omega (arith, fit.0);
      unmasked = λ e. absurd (false≢true (sym e));
      sum = λ x. masked_on_coset base_laws laws embeds.keeps part p m x nonzero (embedded_nonzero laws embeds adicity root generator two_adic part.shift nonzero) full.0;
    },
    are_masked part plain masks nonzero full.1 fit.1,
  )

  module _ (coset : TwoAdicCoset F) (valid : IsTwoAdicCoset field adicity coset) (log_parts : ℕ) (within : log_parts ≤ coset.log_size) where
    -- ---- the first points of the parts
    abbrev start : ℕ → E
    start k = embed (coset_point field root coset k)

    start_nonzero : (k : ℕ) → start k ≢ ring.zero
    start_nonzero k = embedded_nonzero laws embeds adicity root generator two_adic (coset_point field root coset k) (point_nonzero base_laws adicity root generator two_adic coset valid k)

    start_later : (j e : ℕ) → start (j + e) ≡ ring.mul (start j) (power ring (embed (root coset.log_size)) e)
    start_later j e =
        ap embed (ap (field.mul coset.shift) (power-add base_laws.of_ring (root coset.log_size) j e) ∙ sym (base_laws.of_ring.mul_assoc coset.shift (power field (root coset.log_size) j) (power field (root coset.log_size) e)))
        ∙ embeds.keeps.mul (coset_point field root coset j) (power field (root coset.log_size) e) ∙ ap (ring.mul (start j)) (kept_power embeds.keeps (root coset.log_size) (embed (root coset.log_size)) e refl)

    start_step : (j e : ℕ) → let n = 2 ^ (coset.log_size - log_parts) in power ring (start (j + e)) n ≡ ring.mul (power ring (start j) n) (power ring (power ring (embed (root coset.log_size)) n) e)
    start_step j e =
        let n = 2 ^ (coset.log_size - log_parts) in
        let h = embed (root coset.log_size) in
        ap (λ t. power ring t n) (start_later j e) ∙ power-mul laws.of_ring (start j) (power ring h e) n
        ∙ ap (ring.mul (power ring (start j) n)) (power-power laws.of_ring h e n ∙ ap (power ring h) (times_turned e n) ∙ sym (power-power laws.of_ring h n e))

    start_round : (i : ℕ) → let n = 2 ^ (coset.log_size - log_parts) in power ring (start (i + 2 ^ log_parts)) n ≡ power ring (start i) n
    start_round i =
        let n = 2 ^ (coset.log_size - log_parts) in
        let h = embed (root coset.log_size) in
        start_step i (2 ^ log_parts)
        ∙ ap (ring.mul (power ring (start i) n))
        (power-power laws.of_ring h n (2 ^ log_parts) ∙ ap (power ring h) (sym (size_in_parts coset.log_size log_parts within)) ∙ sym (kept_power embeds.keeps (root coset.log_size) h (2 ^ coset.log_size) refl)
        ∙ ap embed (root_has_order base_laws adicity root generator two_adic coset.log_size valid.within).reaches ∙ embeds.keeps.one)
        ∙ laws.of_ring.mul_one (power ring (start i) n)

    -- ---- the chunks on the parts from the a-th on
    abbrev chunks_from : ℕ → ℕ → List (List (List F)) → List (List (List F)) → List (QuotientChunk F)
    chunks_from a n plain masks = masked_chunks field base_inverse (range (coset_part field root coset log_parts) a n) plain masks

    number_of_chunks : (a n : ℕ) (plain masks : List (List (List F))) → length plain ≡ n → length masks ≡ n → length (chunks_from a n plain masks) ≡ n
    number_of_chunks a zero plain masks h k = refl
    number_of_chunks a (suc n) [] masks h k = absurd (omega arith)
    number_of_chunks a (suc n) (p ∷ plain) [] h k = absurd (omega arith)
    number_of_chunks a (suc n) (p ∷ plain) (m ∷ masks) h k = ap suc (number_of_chunks (suc a) n plain masks (omega arith) (omega arith))

    shifts_of_chunks : (a n : ℕ) (plain masks : List (List (List F))) → length plain ≡ n → length masks ≡ n → map (λ q. embed q.part.shift) (chunks_from a n plain masks) ≡ range start a n
    shifts_of_chunks a zero plain masks h k = refl
    shifts_of_chunks a (suc n) [] masks h k = absurd (omega arith)
    shifts_of_chunks a (suc n) (p ∷ plain) [] h k = absurd (omega arith)
    shifts_of_chunks a (suc n) (p ∷ plain) (m ∷ masks) h k = ap (λ t. start a ∷ t) (shifts_of_chunks (suc a) n plain masks (omega arith) (omega arith))

    module _ (c : ℕ) (x : E) (width size : ℕ) where
      abbrev at_column : List (List F) → E
      at_column masks = value_over ring embed (get_or masks c []) x

      masks_of_chunks : (a n : ℕ) (plain masks : List (List (List F))) → length plain ≡ n → length masks ≡ n → AllByRecursion (λ p. length p ≡ width) plain → AllByRecursion (HasMasks width size) masks
          → map (λ q. value_over ring embed (slice_index_or (map (λ m. m.mask) q.columns) c []) x) (chunks_from a n plain masks) ≡ map at_column masks
      masks_of_chunks a zero plain [] h k wide fit = refl
      masks_of_chunks a zero plain (m ∷ masks) h k wide fit = absurd (omega arith)
      masks_of_chunks a (suc n) [] masks h k wide fit = absurd (omega arith)
      masks_of_chunks a (suc n) (p ∷ plain) [] h k wide fit = absurd (omega arith)
      masks_of_chunks a (suc n) (p ∷ plain) (m ∷ masks) h k wide fit =
          ap (λ t. at_column t ∷ map (λ q. value_over ring embed (slice_index_or (map (λ m. m.mask) q.columns) c []) x) (chunks_from (suc a) n plain masks))
          (masks_of_masked field (vanishing_scale field base_inverse (coset_part field root coset log_parts a)) p m (wide.0 ∙ sym fit.0.0))
          ∙ ap (λ t. at_column m ∷ t) (masks_of_chunks (suc a) n plain masks (omega arith) (omega arith) wide.1 fit.1)

      values_of_chosen : (chosen : List (List (List F))) → map at_column chosen ≡ map (λ q. value_over ring embed q x) (map (λ masks. get_or masks c []) chosen)
      values_of_chosen [] = refl
      values_of_chosen (masks ∷ chosen) = ap (λ t. at_column masks ∷ t) (values_of_chosen chosen)

      -- In each column all masks sum to zero.
      masks_sum_to_zero : (numbers : List F) (count : ℕ) → c < width → total ring (map at_column (quotient_masks field numbers count width size)) ≡ ring.zero
      masks_sum_to_zero numbers count inside =
          let chosen = chunk_masks field numbers 0 count width size in
          let last = balancing_masks field chosen size width in
          let mask = balancing_mask field chosen size c in
          ap (total ring) (map-append at_column chosen (last ∷ []))
          ∙ total_of_append laws.of_ring (map at_column chosen) (at_column last ∷ [])
          ∙ ap (ring.add (total ring (map at_column chosen))) (laws.of_ring.add_zero (at_column last) ∙ ap (λ q. value_over ring embed q x) (range_at (balancing_mask field chosen size) [] 0 width c inside ∙ ap (balancing_mask field chosen size) (sym (from_zero c))))
          ∙ ap (λ t. ring.add (total ring t) (value_over ring embed mask x)) (values_of_chosen chosen)
          ∙ balanced_value_over embeds.keeps laws.of_ring size (map (λ masks. get_or masks c []) chosen) x

    -- Chunk j is that of the lists at its place.
    chunk_there : (a n : ℕ) (plain masks : List (List (List F))) (j : ℕ) (q : QuotientChunk F) → slice_get (chunks_from a n plain masks) j ≡ Some q
        → (p m : List (List F)) × (slice_get plain j ≡ Some p) × (slice_get masks j ≡ Some m) × (q ≡ masked_chunk field base_inverse (coset_part field root coset log_parts (a + j)) p m)
    chunk_there a zero plain masks j q there = absurd (no_such j q there)
    chunk_there a (suc n) [] masks j q there = absurd (no_such j q there)
    chunk_there a (suc n) (p ∷ plain) [] j q there = absurd (no_such j q there)
    chunk_there a (suc n) (p ∷ plain) (m ∷ masks) zero q there =
        (p, m, refl, refl, sym (same_Some _ _ there) ∙ ap (λ k. masked_chunk field base_inverse (coset_part field root coset log_parts k) p m) (first_place a))
    chunk_there a (suc n) (p ∷ plain) (m ∷ masks) (suc j) q there =
        let later = chunk_there (suc a) n plain masks j q there in
        (later.0, later.1, later.2, later.3, later.4 ∙ ap (λ k. masked_chunk field base_inverse (coset_part field root coset log_parts k) later.0 later.1) (later_place a j))

    all_at : {A : Type 0} (P : A → Type 0) (xs : List A) (j : ℕ) (y : A) → AllByRecursion P xs → slice_get xs j ≡ Some y → P y
    all_at P [] j y each there = absurd (no_such j y there)
    all_at P (z ∷ xs) zero y each there = subst P (same_Some z y there) each.0
    all_at P (z ∷ xs) (suc j) y each there = all_at P xs j y each.1 there

    module _ (width : ℕ) (row : ℕ → List F) (plain masks : List (List (List F))) (takes : ArePlainChunks field root coset log_parts width (2 ^ log_parts) row plain)
        (number : length masks ≡ 2 ^ log_parts) (fit : AllByRecursion (HasMasks width (2 ^ (coset.log_size - log_parts))) masks) where
      chunk_is : (i : ℕ) (q : QuotientChunk F) → slice_get (chunks_from 0 (2 ^ log_parts) plain masks) i ≡ Some q → IsChunk field root ring inverse embed true coset log_parts width row i q
      chunk_is i q there =
          let w = chunk_there 0 (2 ^ log_parts) plain masks i q there in
          let part = coset_part field root coset log_parts i in
          let p : List (List F) = w.0 in
          let m : List (List F) = w.1 in
          let here = takes.takes i p w.2 in
          let lists = all_at (HasMasks width (2 ^ (coset.log_size - log_parts))) masks i m fit w.3 in
          subst (IsChunk field root ring inverse embed true coset log_parts width row i) (sym (w.4 ∙ ap (λ k. masked_chunk field base_inverse (coset_part field root coset log_parts k) w.0 w.1) (sym (from_zero i))))
          (record {
            part = refl;
            masked = All-from_recursion (IsMasked field ring inverse embed true part) (zip2 (masked_column field (vanishing_scale field base_inverse part)) p m)
                (are_masked part p m (point_nonzero base_laws adicity root generator two_adic coset valid i) (takes.full i p w.2) lists.1);
            takes = subst (TakesRows field root part width (λ r. row (i + r * 2 ^ log_parts))) (sym (plain_of_masked field (vanishing_scale field base_inverse part) p m (here.count ∙ sym lists.0))) here;
          })

      wide : AllByRecursion (λ p. length p ≡ width) plain
      wide = all_listed (λ p. length p ≡ width) plain (λ i p there. (takes.takes i p there).count)

      pub masked_quotient : (numbers : List F) (count : ℕ) → masks ≡ quotient_masks field numbers count width (2 ^ (coset.log_size - log_parts))
          → AreQuotientChunks field root ring inverse embed true coset log_parts width row (chunks_from 0 (2 ^ log_parts) plain masks)
      masked_quotient numbers count are = record {
        number = number_of_chunks 0 (2 ^ log_parts) plain masks takes.number number;
        chunk = chunk_is;
        cancels = λ c x inside.
            let n = 2 ^ (coset.log_size - log_parts) in
            ap (λ t. weighted_sum ring inverse n t (map (λ q. value_over ring embed (slice_index_or (map (λ m. m.mask) q.columns) c []) x) (chunks_from 0 (2 ^ log_parts) plain masks))) (shifts_of_chunks 0 (2 ^ log_parts) plain masks takes.number number)
            ∙ ap (weighted_sum ring inverse n (range start 0 (2 ^ log_parts))) (masks_of_chunks c x width n 0 (2 ^ log_parts) plain masks takes.number number wide fit)
            ∙ weighted_zero laws n (2 ^ log_parts) start (power ring (embed (root coset.log_size)) n) start_nonzero start_step start_round (map (at_column c x width n) masks)
            (length-map masks (at_column c x width n) ∙ number) (ap (λ t. total ring (map (at_column c x width n) t)) are ∙ masks_sum_to_zero c x width n numbers count inside);
      }

    -- ---- what is committed

    committed_columns : (chunks : List (QuotientChunk F)) → columns_of (map (committed_chunk field true) chunks) ≡ chunk_columns chunks
    committed_columns [] = refl
    committed_columns (q ∷ chunks) = ap (λ t. map (λ m. m.column) q.columns ∷ t) (committed_columns chunks)

    full_from : (a n : ℕ) (plain masks : List (List (List F))) → ((j : ℕ) (p : List (List F)) → slice_get plain j ≡ Some p → AllByRecursion (λ column. length column ≡ 2 ^ (coset.log_size - log_parts)) p)
        → (width : ℕ) → AllByRecursion (HasMasks width (2 ^ (coset.log_size - log_parts))) masks → AllByRecursion IsFull (map (committed_chunk field true) (chunks_from a n plain masks))
    full_from a zero plain masks full width fit = tt
    full_from a (suc n) [] masks full width fit = tt
    full_from a (suc n) (p ∷ plain) [] full width fit = tt
    full_from a (suc n) (p ∷ plain) (m ∷ masks) full width fit = (
      subst (AllByRecursion (λ column. length column ≡ 2 ^ ((coset.log_size - log_parts) + 1))) (sym (columns_of_masked field (vanishing_scale field base_inverse (coset_part field root coset log_parts a)) p m))
          (masked_lengths field (vanishing_scale field base_inverse (coset_part field root coset log_parts a)) (2 ^ (coset.log_size - log_parts)) (2 ^ (coset.log_size - log_parts)) (2 ^ ((coset.log_size - log_parts) + 1)) p m
          (full 0 p refl) fit.0.1 (twice (coset.log_size - log_parts))),
      full_from (suc a) n plain masks (λ j later there. full (suc j) later there) width fit.1,
    )

  -- What is committed to as masked chunks stands for chunks of the quotient.
  pub masked_stand : (coset : TwoAdicCoset F) → IsTwoAdicCoset field adicity coset → (num width : ℕ) (row : ℕ → List F) (numbers : List F) (plain matrices commitment prover_data : List (List (List F))) → IsPowerOfTwo num → num ≤ coset_size coset
      → ((k : ℕ) → 2 ^ k ≡ num → AreMaskedChunks field base_inverse root coset k width row (quotient_masks field numbers (num - 1) width (2 ^ (coset.log_size - k))) plain matrices)
      → commitment ≡ matrices → prover_data ≡ matrices
      → (chunks : List (QuotientChunk F))
      × ((commitment ≡ columns_of (map (committed_chunk field true) chunks)) × (prover_data ≡ columns_of (map (committed_chunk field true) chunks)) × AllByRecursion IsFull (map (committed_chunk field true) chunks))
      × ((k : ℕ) → 2 ^ k ≡ num → AreQuotientChunks field root ring inverse embed true coset k width row chunks)
  masked_stand coset valid num width row numbers plain matrices commitment prover_data (k, power) fits made is_commitment has_data =
      let n = 2 ^ (coset.log_size - k) in
      let masks = quotient_masks field numbers (num - 1) width n in
      let here = made k (sym power) in
      let within : k ≤ coset.log_size = exponent_at_most k coset.log_size (omega (arith, power, fits)) in
      let chunks = masked_chunks field base_inverse (range (coset_part field root coset k) 0 (2 ^ k)) plain masks in
      let columns : matrices ≡ columns_of (map (committed_chunk field true) chunks) = here.sum ∙ sym (committed_columns coset valid k within chunks) in
      let positive = pow_pos k in
      let count : length masks ≡ 2 ^ k = let number = quotient_length field numbers (num - 1) width n in omega (arith, number, positive, power) in
      let fit = quotient_has_masks field numbers (num - 1) width n in (
        chunks,
        (is_commitment ∙ columns, has_data ∙ columns, full_from coset valid k within 0 (2 ^ k) plain masks (λ j p there. here.takes.full j p there) width fit),
        λ j same.
            subst (λ i. AreQuotientChunks field root ring inverse embed true coset i width row chunks) (same_exponent k j (sym power ∙ sym same))
            (masked_quotient coset valid k within width row plain masks here.takes count fit numbers (num - 1) refl),
      )

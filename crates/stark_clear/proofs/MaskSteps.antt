-- Masks that are read one after the other.
use Rattle.std.proofs.Common.{◌≡◌, ◌∙◌, ℕ, zero, suc, ◌+◌, ◌*◌, ◌%◌, ◌<◌, List, [], ◌∷◌, ◌++◌, length, get_or, refl, sym, ap, arith, add-one}
use Rattle.std.specs.List.{AllByRecursion}
use Rattle.std.proofs.Math.Nat.{mod-add-mod, mod-mod}
use Rattle.std.proofs.lemmas.List.{get_or_default}
use Rattle.stark_support.specs.Ring.{RingOps}
use Rattle.stark_clear.specs.Masks.{HasMasks, chunk_masks, mask_list, mask_lists, mask_number}
use Rattle.stark_clear.proofs.Ranges.{range_grown, range_length, strided_grown, strided_length}

one_step_more : (first k steps : ℕ) → (first + k * steps) + steps ≡ first + (k + 1) * steps
one_step_more first k steps = omega arith

one_number_more : (first k : ℕ) → (first + k) + 1 ≡ first + (k + 1)
one_number_more first k = omega arith

suc_modulo : (n a b : ℕ) → a % n ≡ b % n → suc a % n ≡ suc b % n
suc_modulo n a b e =
    ap (λ k. k % n) (sym (add-one a)) ∙ sym (mod-add-mod a n 1) ∙ ap (λ k. (k + 1) % n) e ∙ mod-add-mod b n 1 ∙ ap (λ k. k % n) (add-one b)

more_modulo : (n a b k : ℕ) → a % n ≡ b % n → (a + k) % n ≡ (b + k) % n
more_modulo n a b k e = sym (mod-add-mod a n k) ∙ ap (λ c. (c + k) % n) e ∙ mod-add-mod b n k

module _ {F : Type 0} (field : RingOps F) (masks : List F) where
  -- Only the place in the list counts.
  same_list : (a b size : ℕ) → a % length masks ≡ b % length masks → mask_list field masks a size ≡ mask_list field masks b size
  same_list a b zero e = refl
  same_list a b (suc size) e =
      ap (λ i. get_or masks i field.zero ∷ mask_list field masks (suc a) size) e
      ∙ ap (λ t. mask_number field masks b ∷ t) (same_list (suc a) (suc b) size (suc_modulo (length masks) a b e))

  same_lists : (a b count size : ℕ) → a % length masks ≡ b % length masks → mask_lists field masks a count size ≡ mask_lists field masks b count size
  same_lists a b zero size e = refl
  same_lists a b (suc count) size e =
      ap (λ t. t ∷ mask_lists field masks (a + size) count size) (same_list a b size e)
      ∙ ap (λ t. mask_list field masks b size ∷ t) (same_lists (a + size) (b + size) count size (more_modulo (length masks) a b size e))

  -- ---- steps of the loops, which know the place by its remainder
  pub one_more_number : (first place n : ℕ) (done after : List F) (x : F) → x ≡ get_or masks place x → place < length masks → place ≡ (first + n) % length masks
      → after ≡ done ++ x ∷ [] → done ≡ mask_list field masks first n → after ≡ mask_list field masks first (n + 1)
  one_more_number first place n done after x is below e pushed so_far =
      range_grown (mask_number field masks) first n done after x (is ∙ get_or_default masks place x field.zero below ∙ ap (λ i. get_or masks i field.zero) e) pushed so_far

  pub one_more_list : (first place n size : ℕ) (done after : List (List F)) (list : List F) → list ≡ mask_list field masks place size → place ≡ (first + n * size) % length masks
      → after ≡ done ++ list ∷ [] → done ≡ mask_lists field masks first n size → after ≡ mask_lists field masks first (n + 1) size
  one_more_list first place n size done after list is e pushed so_far =
      strided_grown (λ a. mask_list field masks a size) first n size done after list
      (is ∙ same_list place (first + n * size) size (ap (λ k. k % length masks) e ∙ mod-mod (first + n * size) (length masks))) pushed so_far

  pub one_more_chunk : (first place n width size : ℕ) (done after : List (List (List F))) (lists : List (List F)) → lists ≡ mask_lists field masks place width size → place ≡ (first + n * (width * size)) % length masks
      → after ≡ done ++ lists ∷ [] → done ≡ chunk_masks field masks first n width size → after ≡ chunk_masks field masks first (n + 1) width size
  one_more_chunk first place n width size done after lists is e pushed so_far =
      strided_grown (λ a. mask_lists field masks a width size) first n (width * size) done after lists
      (is ∙ same_lists place (first + n * (width * size)) width size (ap (λ k. k % length masks) e ∙ mod-mod (first + n * (width * size)) (length masks))) pushed so_far

-- the place after more steps, and after one number
pub next_place : (n first place k steps : ℕ) → place ≡ (first + k * steps) % n → (place + steps) % n ≡ (first + (k + 1) * steps) % n
next_place n first place k steps e =
    ap (λ p. (p + steps) % n) e ∙ mod-add-mod (first + k * steps) n steps ∙ ap (λ t. t % n) (one_step_more first k steps)

pub next_number_place : (n first place k : ℕ) → place ≡ (first + k) % n → (place + 1) % n ≡ (first + (k + 1)) % n
next_number_place n first place k e = ap (λ p. (p + 1) % n) e ∙ mod-add-mod (first + k) n 1 ∙ ap (λ t. t % n) (one_number_more first k)

-- ---- how many there are

module _ {F : Type 0} (field : RingOps F) (masks : List F) where
  pub lists_length : (a count size : ℕ) → length (mask_lists field masks a count size) ≡ count
  lists_length a count size = strided_length (λ k. mask_list field masks k size) a count size

  pub lists_full : (a count size : ℕ) → AllByRecursion (λ mask. length mask ≡ size) (mask_lists field masks a count size)
  lists_full a zero size = tt
  lists_full a (suc count) size = (range_length (mask_number field masks) a size, lists_full (a + size) count size)

  pub chunks_length : (a count width size : ℕ) → length (chunk_masks field masks a count width size) ≡ count
  chunks_length a count width size = strided_length (λ k. mask_lists field masks k width size) a count (width * size)

  pub chunks_have_masks : (a count width size : ℕ) → AllByRecursion (HasMasks width size) (chunk_masks field masks a count width size)
  chunks_have_masks a zero width size = tt
  chunks_have_masks a (suc count) width size = ((lists_length a width size, lists_full a width size), chunks_have_masks (a + width * size) count width size)

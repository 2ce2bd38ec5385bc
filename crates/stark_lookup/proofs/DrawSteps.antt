-- The draws' coordinates, after other public values.
use Rattle.std.proofs.Common.{◌≡◌, ◌∙◌, ℕ, zero, suc, ◌+◌, ◌*◌, List, [], ◌∷◌, ◌++◌, length, map, flat_map, slice_index_or, refl, sym, ap, arith, append_assoc, append-nil}
use Rattle.std.proofs.lemmas.List.{length-append}
use Rattle.stark_support.specs.Extension.{IsBasis}
use Rattle.stark_support.specs.Ring.{RingOps}
use Rattle.stark_logup.specs.RowConstraints.{ArePowers}
use Rattle.stark_lookup_air.specs.LookupConstraints.{blocks_from, from_place}
use Rattle.stark_lookup.specs.LookupDraws.{powers_from}

module _ {F E : Type 0} (f : F → E) (none : F) where
  abbrev value_of : List F → ℕ → E
  value_of values k = f (slice_index_or values k none)

  found_there : (before : List F) (x : F) (after : List F) → slice_index_or (before ++ (x ∷ after)) (length before) none ≡ x
  found_there [] x after = refl
  found_there (y ∷ before) x after = found_there before x after

  one_after : (before : List F) (x : F) → length (before ++ x ∷ []) ≡ suc (length before)
  one_after before x = length-append before (x ∷ []) ∙ omega arith

  moved : (before : List F) (x : F) (after : List F) → (before ++ x ∷ []) ++ after ≡ before ++ (x ∷ after)
  moved before x after = append_assoc before (x ∷ []) after

  -- values that stand between others
  values_there : (before xs after : List F) → from_place (value_of (before ++ (xs ++ after))) (length before) (length xs) ≡ map f xs
  values_there before [] after = refl
  values_there before (x ∷ xs) after =
      ap (λ y. f y ∷ from_place (value_of (before ++ (x ∷ (xs ++ after)))) (suc (length before)) (length xs)) (found_there before x (xs ++ after))
      ∙ ap (λ ys. f x ∷ ys)
      (ap (λ n. from_place (value_of (before ++ (x ∷ (xs ++ after)))) n (length xs)) (sym (one_after before x))
      ∙ ap (λ vs. from_place (value_of vs) (length (before ++ x ∷ [])) (length xs)) (sym (moved before x (xs ++ after)))
      ∙ values_there (before ++ x ∷ []) xs after)

  module _ {A : Type 0} (coordinates : A → List F) (dimension : ℕ) (count : (x : A) → length (coordinates x) ≡ dimension) where
    block_there : (before : List F) (x : A) (after : List F) → from_place (value_of (before ++ (coordinates x ++ after))) (length before) dimension ≡ map f (coordinates x)
    block_there before x after = ap (from_place (value_of (before ++ (coordinates x ++ after))) (length before)) (sym (count x)) ∙ values_there before (coordinates x) after

    next_block : (before : List F) (x : A) → length before + dimension ≡ length (before ++ coordinates x)
    next_block before x = ap (λ n. length before + n) (sym (count x)) ∙ sym (length-append before (coordinates x))

    -- the blocks of elements, between other values
    pub blocks_among : (before : List F) (xs : List A) (after : List F) → blocks_from (value_of (before ++ (flat_map coordinates xs ++ after))) (length before) dimension (length xs) ≡ map (λ x. map f (coordinates x)) xs
    blocks_among before [] after = refl
    blocks_among before (x ∷ xs) after =
        let others = flat_map coordinates xs ++ after in
        let all = before ++ (coordinates x ++ others) in
        ap (λ vs. blocks_from (value_of (before ++ vs)) (length before) dimension (suc (length xs))) (append_assoc (coordinates x) (flat_map coordinates xs) after)
        ∙ ap (λ b. b ∷ blocks_from (value_of all) (length before + dimension) dimension (length xs)) (block_there before x others)
        ∙ ap (λ bs. map f (coordinates x) ∷ bs)
        (ap (λ n. blocks_from (value_of all) n dimension (length xs)) (next_block before x)
        ∙ ap (λ vs. blocks_from (value_of vs) (length (before ++ coordinates x)) dimension (length xs)) (sym (append_assoc before (coordinates x) others))
        ∙ blocks_among (before ++ coordinates x) xs after)

    blocks_there : (before : List F) (xs : List A) → blocks_from (value_of (before ++ flat_map coordinates xs)) (length before) dimension (length xs) ≡ map (λ x. map f (coordinates x)) xs
    blocks_there before xs = ap (λ vs. blocks_from (value_of (before ++ vs)) (length before) dimension (length xs)) (sym (append-nil (flat_map coordinates xs))) ∙ blocks_among before xs []

    -- the first of them, and those after it
    pub first_there : (before : List F) (x : A) (xs : List A) (place : ℕ) → length before ≡ place → from_place (value_of (before ++ flat_map coordinates (x ∷ xs))) place dimension ≡ map f (coordinates x)
    first_there before x xs place at = ap (λ n. from_place (value_of (before ++ flat_map coordinates (x ∷ xs))) n dimension) (sym at) ∙ block_there before x (flat_map coordinates xs)

    pub others_there : (before : List F) (x : A) (xs : List A) (place number : ℕ) → length before ≡ place → length xs ≡ number
        → blocks_from (value_of (before ++ flat_map coordinates (x ∷ xs))) (place + dimension) dimension number ≡ map (λ y. map f (coordinates y)) xs
    others_there before x xs place number at many =
        let all = before ++ (coordinates x ++ flat_map coordinates xs) in
        ap (λ n. blocks_from (value_of all) (n + dimension) dimension number) (sym at) ∙ ap (λ n. blocks_from (value_of all) (length before + dimension) dimension n) (sym many)
        ∙ ap (λ n. blocks_from (value_of all) n dimension (length xs)) (next_block before x)
        ∙ ap (λ vs. blocks_from (value_of vs) (length (before ++ coordinates x)) dimension (length xs)) (sym (append_assoc before (coordinates x) (flat_map coordinates xs)))
        ∙ blocks_there (before ++ coordinates x) xs

    times_more : (n d : ℕ) → d + n * d ≡ suc n * d
    times_more n d = omega arith

    pub flat_length : (xs : List A) → length (flat_map coordinates xs) ≡ length xs * dimension
    flat_length [] = omega arith
    flat_length (x ∷ xs) =
        length-append (coordinates x) (flat_map coordinates xs) ∙ ap (λ n. n + length (flat_map coordinates xs)) (count x) ∙ ap (λ n. dimension + n) (flat_length xs) ∙ times_more (length xs) dimension

-- ---- powers, one after the other

module _ {E : Type 0} (ring : RingOps E) (beta : E) (all whole : List E) where
  pub one_power : (more : List E) (power next : E) (left less : ℕ) → more ≡ all ++ power ∷ [] → next ≡ ring.mul power beta → left ≡ suc less → all ++ powers_from ring beta power left ≡ whole → more ++ powers_from ring beta next less ≡ whole
  one_power more power next left less pushed times is so_far =
      ap (λ xs. xs ++ powers_from ring beta next less) pushed ∙ append_assoc all (power ∷ []) (powers_from ring beta next less) ∙ ap (λ x. all ++ (power ∷ powers_from ring beta x less)) times
      ∙ sym (ap (λ n. all ++ powers_from ring beta power n) is) ∙ so_far

  pub no_power : (power : E) (left : ℕ) → left ≡ 0 → all ++ powers_from ring beta power left ≡ whole → all ≡ whole
  no_power power left is so_far = sym (append-nil all) ∙ sym (ap (λ n. all ++ powers_from ring beta power n) is) ∙ so_far

pub powers_number : {E : Type 0} (ring : RingOps E) (beta x : E) (n : ℕ) → length (powers_from ring beta x n) ≡ n
powers_number ring beta x zero = refl
powers_number ring beta x (suc n) = ap suc (powers_number ring beta (ring.mul x beta) n)

module _ {F E : Type 0} {ring : RingOps E} {embed : F → E} {dimension : ℕ} {basis : List E} {coordinates : E → List F} (is_basis : IsBasis ring embed dimension basis coordinates) where
  pub powers_are : (beta x : E) (n : ℕ) → ArePowers ring basis beta x (map (λ y. map embed (coordinates y)) (powers_from ring beta x n))
  powers_are beta x zero = tt
  powers_are beta x (suc n) = (sym (is_basis.sum x), powers_are beta (ring.mul x beta) n)

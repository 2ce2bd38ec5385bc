-- The loops that multiply and add up lists, and that write rows with their sums.
use Rattle.std.proofs.Common.{◌≡◌, ◌∙◌, ℕ, zero, suc, ◌+◌, ◌-◌, ◌*◌, ◌%◌, ◌<◌, ◌≤◌, List, [], ◌∷◌, ◌++◌, length, get_or, map, take, drop, sym, ap, refl, arith, add-one, append_assoc, append-nil, suc-mul, zero-mul}
use Rattle.std.proofs.lemmas.List.{drop_all, length-append, length-drop, length-take-le, map-append, take_more}
use Rattle.std.proofs.lemmas.Nat.{mod-mul-add, row_fits}
use Rattle.std.specs.declared.vec.Vec.{Vec}
use Rattle.stark_support.proofs.Places.{from_place}
use Rattle.stark_support.specs.Ring.{RingOps}
use Rattle.stark_logup.specs.Fractions.{Entry, list_sum}
use Rattle.stark_lookup_trace.specs.AuxiliaryColumns.{entries_of, entry_pairs, in_row, products, rows_with_sums, sum_before}
use Rattle.stark_lookup_trace.proofs.PassingSteps.{row_is}

-- ---- products and sums

module _ {K : Type 0} (ring : RingOps K) where
  pub one_more_product : (xs ys old new whole : List K) (i : ℕ) (x y product : K) → i < length xs → i < length ys → x ≡ get_or xs i x → y ≡ get_or ys i y → product ≡ ring.mul x y
      → new ≡ old ++ product ∷ [] → old ++ products ring (drop i xs) (drop i ys) ≡ whole → new ++ products ring (drop (i + 1) xs) (drop (i + 1) ys) ≡ whole
  one_more_product xs ys old new whole i x y product within within_too is_x is_y is_product pushed so_far =
      let rest = products ring (drop (i + 1) xs) (drop (i + 1) ys) in
      ap (λ t. t ++ rest) pushed ∙ append_assoc old (product ∷ []) rest ∙ ap (λ p. old ++ p ∷ rest) is_product
      ∙ ap (λ t. old ++ products ring t (y ∷ drop (i + 1) ys)) (sym (from_place xs i (i + 1) x refl within is_x))
      ∙ ap (λ t. old ++ products ring (drop i xs) t) (sym (from_place ys i (i + 1) y refl within_too is_y)) ∙ so_far

  pub all_multiplied : (xs ys done whole : List K) (i : ℕ) → length xs ≤ i → done ++ products ring (drop i xs) (drop i ys) ≡ whole → done ≡ whole
  all_multiplied xs ys done whole i ended so_far = sym (append-nil done) ∙ ap (λ t. done ++ products ring t (drop i ys)) (sym (drop_all i xs ended)) ∙ so_far

  pub more_added : (xs : List K) (i j : ℕ) (x sum more : K) → i + 1 ≡ j → i < length xs → x ≡ get_or xs i x → more ≡ ring.add x sum → sum ≡ list_sum ring (drop j xs) → more ≡ list_sum ring (drop i xs)
  more_added xs i j x sum more next within is is_more so_far = is_more ∙ ap (ring.add x) so_far ∙ ap (list_sum ring) (sym (from_place xs i j x next within is))

  pub none_added : (xs : List K) (i : ℕ) (sum : K) → length xs ≤ i → sum ≡ ring.zero → sum ≡ list_sum ring (drop i xs)
  none_added xs i sum ended is = is ∙ ap (list_sum ring) (sym (drop_all i xs ended))

-- one more of the fractions
pub one_more_fraction : {K A : Type 0} (f : List (Entry K K) → K) (gs : List (Vec (K × K) A)) (i : ℕ) (g : Vec (K × K) A) (y : K) (old new : List K) → i < length gs → g ≡ get_or gs i g
    → y ≡ f (entry_pairs g.items) → new ≡ old ++ y ∷ [] → old ≡ map f (entries_of (take i gs)) → new ≡ map f (entries_of (take (i + 1) gs))
one_more_fraction f gs i g y old new within is same pushed so_far =
    pushed ∙ ap (λ t. t ++ y ∷ []) so_far ∙ ap (λ z. map f (entries_of (take i gs)) ++ z ∷ []) same
    ∙ sym (map-append f (entries_of (take i gs)) (entry_pairs g.items ∷ []))
    ∙ ap (map f) (sym (map-append (λ v. entry_pairs v.items) (take i gs) (g ∷ [])))
    ∙ ap (λ z. map f (entries_of (take i gs ++ z ∷ []))) is ∙ ap (λ t. map f (entries_of t)) (sym (take_more gs i g within))

-- ---- rows

enough_left : (size n l : ℕ) → n * size + size ≤ l → size ≤ l - n * size
enough_left size n l h = omega arith

-- A row ends within the list.
pub row_ends : (row rows size l : ℕ) → row < rows → l ≡ rows * size → row * size + size ≤ l
row_ends row rows size l below whole = let fits = row_fits row size rows size below (omega arith) in omega (arith, fits, whole)

row_length : {A : Type 0} (size : ℕ) (xs : List A) (n : ℕ) → n * size + size ≤ length xs → length (in_row size xs n) ≡ size
row_length size xs n h =
    ap length (row_is size xs n)
    ∙ length-take-le size (drop (n * size) xs) (let left = length-drop (n * size) xs in let enough = enough_left size n (length xs) h in omega (arith, left, enough))

earlier_fit : (size n l : ℕ) → suc n * size ≤ l → n * size ≤ l
earlier_fit size n l h = let next = suc-mul n size in omega (arith, next, h)

last_fits : (size n l : ℕ) → suc n * size ≤ l → n * size + size ≤ l
last_fits size n l h = let next = suc-mul n size in omega (arith, next, h)

one_longer : (n width before row all : ℕ) → before ≡ n * width → row ≡ width → all ≡ before + row → all ≡ suc n * width
one_longer n width before row all h k e = e ∙ ap (λ b. b + row) h ∙ ap (λ r. n * width + r) k ∙ sym (suc-mul n width)

module _ {K : Type 0} (ring : RingOps K) (size : ℕ) (helpers : List K) where
  rows_length : (n : ℕ) → n * size ≤ length helpers → length (rows_with_sums ring size helpers n) ≡ n * (size + 1)
  rows_length zero h = sym (zero-mul (size + 1))
  rows_length (suc n) h =
      let row = in_row size helpers n ++ sum_before ring size helpers n ∷ [] in
      one_longer n (size + 1) (length (rows_with_sums ring size helpers n)) (length row) (length (rows_with_sums ring size helpers (suc n)))
      (rows_length n (earlier_fit size n (length helpers) h))
      (length-append (in_row size helpers n) (sum_before ring size helpers n ∷ []) ∙ ap (λ k. k + 1) (row_length size helpers n (last_fits size n (length helpers) h)))
      (length-append (rows_with_sums ring size helpers n) row)

  no_rest : (rows : ℕ) → (rows * (size + 1) + 0) % (size + 1) ≡ 0
  no_rest rows = mod-mul-add rows (size + 1) 0 (omega arith)

  pub whole_rows : (rows : ℕ) (values : List K) → length helpers ≡ rows * size → values ≡ rows_with_sums ring size helpers rows → length values % (size + 1) ≡ 0
  whole_rows rows values whole are =
      ap (λ t. length t % (size + 1)) are ∙ ap (λ k. k % (size + 1)) (rows_length rows (omega (arith, whole)) ∙ nothing_more (rows * (size + 1))) ∙ no_rest rows
    where
      nothing_more : (n : ℕ) → n ≡ n + 0
      nothing_more n = omega arith

  pub row_pushed : (row : ℕ) (added extended old new : List K) (sum : K) → added ≡ in_row size helpers row → sum ≡ sum_before ring size helpers row → extended ≡ old ++ added → new ≡ extended ++ sum ∷ []
      → old ≡ rows_with_sums ring size helpers row → new ≡ rows_with_sums ring size helpers (row + 1)
  row_pushed row added extended old new sum is_added is_sum is_extended pushed so_far =
      pushed ∙ ap (λ t. t ++ sum ∷ []) (is_extended ∙ ap (λ t. old ++ t) is_added) ∙ append_assoc old (in_row size helpers row) (sum ∷ [])
      ∙ ap (λ s. old ++ (in_row size helpers row ++ s ∷ [])) is_sum
      ∙ ap (λ t. t ++ (in_row size helpers row ++ sum_before ring size helpers row ∷ [])) so_far ∙ ap (rows_with_sums ring size helpers) (sym (add-one row))

  pub sum_more : (row : ℕ) (added : List K) (sum total more : K) → added ≡ in_row size helpers row → total ≡ list_sum ring added → more ≡ ring.add sum total
      → sum ≡ sum_before ring size helpers row → more ≡ sum_before ring size helpers (row + 1)
  sum_more row added sum total more is_added is_total is_more so_far =
      is_more ∙ ap (λ s. ring.add s total) so_far ∙ ap (ring.add (sum_before ring size helpers row)) (is_total ∙ ap (list_sum ring) is_added)
      ∙ ap (sum_before ring size helpers) (sym (add-one row))

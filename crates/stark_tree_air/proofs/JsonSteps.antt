-- What rows give, step by step.
use Rattle.std.proofs.Common.{◌≡◌, ◌∙◌, ◌==◌, ℕ, suc, ◌+◌, ◌*◌, ◌<◌, ◌≤◌, ◌%◌, true, false, List, [], ◌∷◌, ◌++◌, None, Result, Ok, Err, length, map, drop, get_or, refl, sym, ap, arith, append_assoc, length-append}
use Rattle.std.proofs.Math.Nat.{mul-mod_left, suc-mul}
use Rattle.std.proofs.lemmas.List.{append-nil, drop_all, map-append}
use Rattle.std.proofs.lemmas.List.FromFn.{map-range_with_len_more}
use Rattle.std.specs.List.{range_with_len}
use Rattle.serde_json.specs.View.{items_view}
use Rattle.serde_json.specs.declared.value.Value.{Value}
use Rattle.stark_support.proofs.Places.{from_place}
use Rattle.stark_tree_air.specs.NodeJson.{node_at}
use Rattle.stark_tree_air.specs.NodeRefusal.{items_length}
use Rattle.stark_tree_air.specs.TreeJson.{TreeFault, row_width, joined_rows, ◌>>=◌}

-- what was read before, and what is still read
abbrev pub with_values : {A F : Type 0} → List A → Result (List A) F → Result (List A) F
with_values front (Err fault) = Err fault
with_values front (Ok rest) = Ok (front ++ rest)

pub is_equal : (a b : ℕ) → a ≡ b → (a == b) ≡ true
is_equal a b e = grind arith

not_equal : (a b : ℕ) → (a ≡ b → ⊥) → (a == b) ≡ false
not_equal a b h = grind arith

regrouped : {F : Type 0} (front row : List F) (r : Result (List F) TreeFault) → with_values front (r >>= λ rest. Ok (row ++ rest)) ≡ with_values (front ++ row) r
regrouped front row (Ok rest) = ap (λ xs. Ok xs) (sym (append_assoc front row rest))
regrouped front row (Err fault) = refl

head_taken : {F : Type 0} (width i : ℕ) (front row : List F) (rows : List (List F)) → length row ≡ width → with_values front (joined_rows width i (row ∷ rows)) ≡ with_values (front ++ row) (joined_rows width (i + 1) rows)
head_taken width i front row rows e = let t : (length row == width) ≡ true = is_equal (length row) width e in rw t (regrouped front row (joined_rows width (i + 1) rows))

head_refused : {F : Type 0} (width i : ℕ) (front row : List F) (rows : List (List F)) → (length row ≡ width → ⊥) → with_values front (joined_rows width i (row ∷ rows)) ≡ Err (row_width i width (length row))
head_refused width i front row rows other = let t : (length row == width) ≡ false = not_equal (length row) width other in rw t refl

module _ {A F : Type 0} (f : A → List F) (as' : List A) (width : ℕ) (whole : Result (List F) TreeFault) (i : ℕ) (front : List F) (so_far : with_values front (joined_rows width i (map f (drop i as'))) ≡ whole) where
  pub row_refused : (a : A) (n : ℕ) → i < length as' → a ≡ get_or as' i a → (length (f a) ≡ width → ⊥) → n ≡ length (f a) → whole ≡ Err (row_width i width n)
  row_refused a n within is other counted =
      sym so_far ∙ ap (λ bs. with_values front (joined_rows width i (map f bs))) (from_place as' i (i + 1) a refl within is) ∙ head_refused width i front (f a) (map f (drop (i + 1) as')) other ∙ ap (λ k. Err (row_width i width k)) (sym counted)

  pub row_taken : (a : A) (now : List F) → i < length as' → a ≡ get_or as' i a → length (f a) ≡ width → now ≡ front ++ f a → with_values now (joined_rows width (i + 1) (map f (drop (i + 1) as'))) ≡ whole
  row_taken a now within is e pushed =
      ap (λ xs. with_values xs (joined_rows width (i + 1) (map f (drop (i + 1) as')))) pushed ∙
      sym (head_taken width i front (f a) (map f (drop (i + 1) as')) e) ∙
      sym (ap (λ bs. with_values front (joined_rows width i (map f bs))) (from_place as' i (i + 1) a refl within is)) ∙
      so_far

  pub rows_taken : length as' ≤ i → whole ≡ Ok front
  rows_taken ended = sym so_far ∙ ap (λ bs. with_values front (joined_rows width i (map f bs))) (drop_all i as' ended) ∙ ap (λ xs. Ok xs) (append-nil front)

pub next_times : (i w : ℕ) → (i + 1) * w ≡ i * w + w
next_times i w = let e : i + 1 ≡ suc i = omega arith in ap (λ j. j * w) e ∙ suc-mul i w

pub one_more_row : {F : Type 0} (i w : ℕ) (front row now : List F) → length front ≡ i * w → length row ≡ w → now ≡ front ++ row → length now ≡ (i + 1) * w
one_more_row i w front row now p q pushed =
    let joined : length now ≡ length front + length row = ap length pushed ∙ length-append front row in
    let e = next_times i w in
    omega (arith, joined, p, q, e)

pub whole_rows : (n i w : ℕ) → n ≡ i * w → n % w ≡ 0
whole_rows n i w e = ap (λ m. m % w) e ∙ mul-mod_left i w

-- one more row was written
same : (xs : List ℕ) → map (λ k. k) xs ≡ xs
same [] = refl
same (x ∷ xs) = ap (λ ys. x ∷ ys) (same xs)

more : (n : ℕ) → range_with_len 0 (n + 1) ≡ range_with_len 0 n ++ n ∷ []
more n = sym (same (range_with_len 0 (n + 1))) ∙ map-range_with_len_more (λ k. k) 0 n n (omega arith) ∙ ap (λ xs. xs ++ n ∷ []) (same (range_with_len 0 n))

pub rows_more : {V D X : Type 0} (view : V → D) (h : X → D) (row : ℕ → X) (vs ws : List V) (v : V) (r : ℕ) → map view vs ≡ map h (map row (range_with_len 0 r)) → ws ≡ vs ++ v ∷ [] → view v ≡ h (row r) → map view ws ≡ map h (map row (range_with_len 0 (r + 1)))
rows_more view h row vs ws v r so_far pushed this =
    ap (map view) pushed ∙
    map-append view vs (v ∷ []) ∙
    ap (λ ds. ds ++ view v ∷ []) so_far ∙
    ap (λ d. map h (map row (range_with_len 0 r)) ++ d ∷ []) this ∙
    sym (map-append h (map row (range_with_len 0 r)) (row r ∷ [])) ∙
    sym (ap (map h) (map-append row (range_with_len 0 r) (r ∷ []))) ∙
    sym (ap (λ ks. map h (map row ks)) (more r))

-- no node has three places
pub too_many : (vs : List Value) → 4 ≤ length vs → node_at (items_view vs) ≡ None
too_many [] h = absurd (omega arith)
too_many (a ∷ []) h = absurd (omega arith)
too_many (a ∷ (b ∷ [])) h = absurd (omega arith)
too_many (a ∷ (b ∷ (d ∷ []))) h = absurd (omega arith)
too_many (a ∷ (b ∷ (d ∷ (e ∷ vs)))) h = refl

-- as many items as values
pub items_length_view : (vs : List Value) → items_length (items_view vs) ≡ length vs
items_length_view [] = refl
items_length_view (v ∷ vs) = let rest = items_length_view vs in omega (arith, rest)

-- The steps of the loops that cut and join.
use Rattle.std.proofs.Common.{◌≡◌, ◌∙◌, ℕ, ◌+◌, ◌-◌, ◌*◌, ◌<◌, ◌≤◌, ◌⊎◌, suc, List, [], ◌∷◌, ◌++◌, length, get_or, map, take, drop, min, sym, ap, refl, arith, append_assoc, inl, inr}
use Rattle.std.proofs.lemmas.List.{append-nil, drop_all, length-append, length-take-le, length-drop, map-append, take-append-drop}
use Rattle.stark_support.proofs.Places.{from_place}
use Rattle.stark_support.specs.Scheme.{matrix_row}
use Rattle.stark_support.specs.declared.matrix.RowMajorMatrix.{RowMajorMatrix}
use Rattle.stark_support.specs.Coset.{TwoAdicCoset}
use Rattle.stark_two_part.specs.declared.in_parts.InParts.{InParts}
use Rattle.stark_two_part.specs.declared.in_parts.InParts.TheVariants.{Whole, Parts}
use Rattle.stark_two_part.specs.declared.in_parts.Side.TheVariants.{All}
use Rattle.stark_two_part.specs.InParts.{joined_matrices, joined_opened, joined_rows, part_of_matrix, round_begins, rounds_in, side_of, some_values}
use Rattle.stark_two_part.specs.Cut.{height}
use Rattle.stark_two_part.specs.RowFacts.{rows_listed, rows_listed_length, row_listed, row_length}

one_ended : (m n i : ℕ) → min m n ≤ i → (m ≤ i) ⊎ (n ≤ i)
one_ended m n i h = grind arith

one_less : (i n : ℕ) → i < n → n - i ≡ suc (n - (i + 1))
one_less i n h = omega arith

no_more : (i n : ℕ) → n ≤ i → n - i ≡ 0
no_more i n h = omega arith

no_rows : {E : Type 0} (vs : List (List E)) → joined_rows vs [] ≡ []
no_rows [] = refl
no_rows (v ∷ vs) = refl

no_matrices : {E : Type 0} (ms : List (List (List E))) → joined_matrices ms [] ≡ []
no_matrices [] = refl
no_matrices (m ∷ ms) = refl

-- One more of a list was turned into another.
pub mapped_more : {A B V : Type 0} (view : V → B) (f : A → B) (xs : List A) (i : ℕ) (x : A) (before after : List V) (v : V) (whole : List B) → i < length xs → x ≡ get_or xs i x
    → after ≡ before ++ v ∷ [] → view v ≡ f x → map view before ++ map f (drop i xs) ≡ whole → map view after ++ map f (drop (i + 1) xs) ≡ whole
mapped_more view f xs i x before after v whole within is pushed turned so_far =
    let rest = map f (drop (i + 1) xs) in
    ap (λ t. map view t ++ rest) pushed ∙ ap (λ t. t ++ rest) (map-append view before (v ∷ [])) ∙ append_assoc (map view before) (view v ∷ []) rest
    ∙ ap (λ t. map view before ++ t ∷ rest) turned ∙ ap (λ t. map view before ++ map f t) (sym (from_place xs i (i + 1) x refl within is)) ∙ so_far

below_both : (r m n : ℕ) → r < min m n → (r < m) × (r < n)
below_both r m n h = (omega arith, omega arith)

module _ {F : Type 0} (first : ℕ) (m : RowMajorMatrix F) (others : first < m.width) (n : ℕ) (all : n ≡ height m) where
  abbrev row : ℕ → List F
  row r = matrix_row m.values.items m.width r

  width_of_row : (r : ℕ) → r < n → length (row r) ≡ m.width
  width_of_row r h = row_length m.values.items m.width r (omega (arith, all, h))

  left_lengths : (r : ℕ) → r < n → length (take first (row r)) ≡ first
  left_lengths r h = length-take-le first (row r) (omega (arith, width_of_row r h, others))

  right_lengths : (r : ℕ) → r < n → length (drop first (row r)) ≡ m.width - first
  right_lengths r h = length-drop first (row r) ∙ ap (λ k. k - first) (width_of_row r h)

  pub left_number : (left : List F) → left ≡ rows_listed (λ r. take first (row r)) n → length left ≡ n * first
  left_number left is = ap length is ∙ rows_listed_length (λ r. take first (row r)) n first left_lengths

  pub right_number : (right : List F) → right ≡ rows_listed (λ r. drop first (row r)) n → length right ≡ n * (m.width - first)
  right_number right is = ap length is ∙ rows_listed_length (λ r. drop first (row r)) n (m.width - first) right_lengths

  pub cut_rows : (left right : List F) → left ≡ rows_listed (λ r. take first (row r)) n → right ≡ rows_listed (λ r. drop first (row r)) n → (r : ℕ) → r < n
      → row r ≡ matrix_row left first r ++ matrix_row right (m.width - first) r
  cut_rows left right left_is right_is r h =
      sym (take-append-drop first (row r))
      ∙ ap (λ t. t ++ drop first (row r)) (sym (row_listed (λ k. take first (row k)) n first left_lengths r h) ∙ ap (λ t. matrix_row t first r) (sym left_is))
      ∙ ap (λ t. matrix_row left first r ++ t) (sym (row_listed (λ k. drop first (row k)) n (m.width - first) right_lengths r h) ∙ ap (λ t. matrix_row t (m.width - first) r) (sym right_is))

module _ {F : Type 0} (left right : RowMajorMatrix F) (n : ℕ) (all : n ≡ min (height left) (height right)) where
  abbrev pub both : ℕ → List F
  both r = matrix_row left.values.items left.width r ++ matrix_row right.values.items right.width r

  both_lengths : (r : ℕ) → r < n → length (both r) ≡ left.width + right.width
  both_lengths r h =
      let parts = below_both r (height left) (height right) (omega (arith, all, h)) in
      length-append (matrix_row left.values.items left.width r) (matrix_row right.values.items right.width r)
      ∙ ap (λ k. k + length (matrix_row right.values.items right.width r)) (row_length left.values.items left.width r parts.0)
      ∙ ap (λ k. left.width + k) (row_length right.values.items right.width r parts.1)

  pub joined_number : (values : List F) → values ≡ rows_listed both n → length values ≡ n * (left.width + right.width)
  joined_number values is = ap length is ∙ rows_listed_length both n (left.width + right.width) both_lengths

  pub rows_joined : (values : List F) → values ≡ rows_listed both n → (r : ℕ) → r < n → matrix_row values (left.width + right.width) r ≡ both r
  rows_joined values is r h = ap (λ t. matrix_row t (left.width + right.width) r) is ∙ row_listed both n (left.width + right.width) both_lengths r h

-- ---- claims and rounds

all_points : {E : Type 0} (count : ℕ) (ps : List (E × List E)) → map (some_values (side_of count All)) ps ≡ ps
all_points count [] = refl
all_points count (p ∷ ps) = ap (λ t. p ∷ t) (all_points count ps)

-- Claims of all values are the claims.
pub all_matrices : {F E : Type 0} (count : ℕ) (ms : List (TwoAdicCoset F × List (E × List E))) → map (part_of_matrix (side_of count All)) ms ≡ ms
all_matrices count [] = refl
all_matrices {F} {E} count (m ∷ ms) =
    let under : List (E × List E) → TwoAdicCoset F × List (E × List E) = λ ps. (m.0, ps) in
    ap (λ t. t ∷ map (part_of_matrix (side_of count All)) ms) (ap under (all_points count m.1)) ∙ ap (λ t. m ∷ t) (all_matrices count ms)

-- One more of a list was put after others, in pieces.
pub pieces_more : {A B : Type 0} (pieces : A → List B) (flat : List A → List B) → ((x : A) (xs : List A) → flat (x ∷ xs) ≡ pieces x ++ flat xs)
    → (xs : List A) (i : ℕ) (x : A) (before after whole : List B) → i < length xs → x ≡ get_or xs i x → after ≡ before ++ pieces x → before ++ flat (drop i xs) ≡ whole → after ++ flat (drop (i + 1) xs) ≡ whole
pieces_more pieces flat opens xs i x before after whole within is pushed so_far =
    ap (λ t. t ++ flat (drop (i + 1) xs)) pushed ∙ append_assoc before (pieces x) (flat (drop (i + 1) xs))
    ∙ ap (λ t. before ++ t) (sym (opens x (drop (i + 1) xs)) ∙ ap flat (sym (from_place xs i (i + 1) x refl within is))) ∙ so_far

-- Two lists taken together, an element of each at a time.
pub record TakenTogether {A B C : Type 0} (pair : A → B → C) (together : List A → List B → List C) : Type 0 where
  pub more : (x : A) (xs : List A) (y : B) (ys : List B) → together (x ∷ xs) (y ∷ ys) ≡ pair x y ∷ together xs ys
  pub none : (ys : List B) → together [] ys ≡ []
  pub no_other : (xs : List A) → together xs [] ≡ []

module _ {A B C V X Y : Type 0} {pair : A → B → C} {together : List A → List B → List C} (taken : TakenTogether pair together) (view : V → C) (f : X → A) (g : Y → B) (xs : List X) (ys : List Y) where
  pub together_more : (i : ℕ) (x : X) (y : Y) (before after : List V) (v : V) (whole : List C) → i < length xs → i < length ys → x ≡ get_or xs i x → y ≡ get_or ys i y → after ≡ before ++ v ∷ []
      → view v ≡ pair (f x) (g y) → map view before ++ together (map f (drop i xs)) (map g (drop i ys)) ≡ whole → map view after ++ together (map f (drop (i + 1) xs)) (map g (drop (i + 1) ys)) ≡ whole
  together_more i x y before after v whole within other is other_is pushed made so_far =
      let rest = together (map f (drop (i + 1) xs)) (map g (drop (i + 1) ys)) in
      ap (λ t. map view t ++ rest) pushed ∙ ap (λ t. t ++ rest) (map-append view before (v ∷ [])) ∙ append_assoc (map view before) (view v ∷ []) rest
      ∙ ap (λ t. map view before ++ t ∷ rest) made
      ∙ ap (λ t. map view before ++ t) (sym (taken.more (f x) (map f (drop (i + 1) xs)) (g y) (map g (drop (i + 1) ys)))
      ∙ ap (λ t. together (map f t) (map g (y ∷ drop (i + 1) ys))) (sym (from_place xs i (i + 1) x refl within is))
      ∙ ap (λ t. together (map f (drop i xs)) (map g t)) (sym (from_place ys i (i + 1) y refl other other_is))) ∙ so_far

  pub together_done : (i : ℕ) (before : List V) (whole : List C) → min (length xs) (length ys) ≤ i → map view before ++ together (map f (drop i xs)) (map g (drop i ys)) ≡ whole → map view before ≡ whole
  together_done i before whole ended so_far =
      let nothing : together (map f (drop i xs)) (map g (drop i ys)) ≡ []
      = elim (one_ended (length xs) (length ys) i ended) [
        | inl left ↦ ap (λ t. together (map f t) (map g (drop i ys))) (drop_all i xs left) ∙ taken.none _
        | inr right ↦ ap (λ t. together (map f (drop i xs)) (map g t)) (drop_all i ys right) ∙ taken.no_other _
      ] in
      sym (append-nil (map view before)) ∙ ap (λ t. map view before ++ t) (sym nothing) ∙ so_far

pub rows_together : {E : Type 0} → TakenTogether {A = List E} (λ v w. v ++ w) joined_rows
rows_together = record { more = λ x xs y ys. refl; none = λ ys. refl; no_other = no_rows }

pub matrices_together : {E : Type 0} → TakenTogether {A = List (List E)} joined_rows joined_matrices
matrices_together = record { more = λ x xs y ys. refl; none = λ ys. refl; no_other = no_matrices }

-- ---- places

module _ {A T : Type 0} (f : A → InParts T) (xs : List A) where
  none_begin : (ks : List (InParts T)) → round_begins ks 0 ≡ 0
  none_begin [] = refl
  none_begin (k ∷ ks) = refl

  pub begins_more : (i n r place whole : ℕ) (x : A) → i < n → i < length xs → x ≡ get_or xs i x → r ≡ rounds_in (f x) → place + round_begins (map f (drop i xs)) (n - i) ≡ whole
      → (place + r) + round_begins (map f (drop (i + 1) xs)) (n - (i + 1)) ≡ whole
  begins_more i n r place whole x below within is count so_far =
      let rest = round_begins (map f (drop (i + 1) xs)) (n - (i + 1)) in
      let opened : round_begins (map f (drop i xs)) (n - i) ≡ rounds_in (f x) + rest
      = ap (λ t. round_begins (map f t) (n - i)) (from_place xs i (i + 1) x refl within is) ∙ ap (round_begins (f x ∷ map f (drop (i + 1) xs))) (one_less i n below) in
      omega (arith, opened, count, so_far)

  pub begins_done : (i n place whole : ℕ) → min n (length xs) ≤ i → place + round_begins (map f (drop i xs)) (n - i) ≡ whole → place ≡ whole
  begins_done i n place whole ended so_far =
      let nothing : round_begins (map f (drop i xs)) (n - i) ≡ 0
      = elim (one_ended n (length xs) i ended) [
        | inl first ↦ ap (round_begins (map f (drop i xs))) (no_more i n first) ∙ none_begin _
        | inr second ↦ ap (λ t. round_begins (map f t) (n - i)) (drop_all i xs second)
      ] in
      omega (arith, nothing, so_far)

-- ---- what is opened

module _ {R T V X E : Type 0} (f : R → InParts T) (view : V → List (List (List E))) (g : X → List (List (List E))) (rounds : List R) (opened : List X) where
  abbrev left_over : ℕ → ℕ → List (List (List (List E)))
  left_over i place = joined_opened (map f (drop i rounds)) (map g (drop place opened))

  round_opens : (i : ℕ) (r : R) (t : InParts T) → i < length rounds → r ≡ get_or rounds i r → f r ≡ t → map f (drop i rounds) ≡ t ∷ map f (drop (i + 1) rounds)
  round_opens i r t within is made = ap (map f) (from_place rounds i (i + 1) r refl within is) ∙ ap (λ k. k ∷ map f (drop (i + 1) rounds)) made

  pub whole_more : (i place : ℕ) (r : R) (t : T) (o : X) (before after : List V) (v : V) (whole : List (List (List (List E)))) → i < length rounds → r ≡ get_or rounds i r → f r ≡ Whole t
      → place < length opened → o ≡ get_or opened place o → after ≡ before ++ v ∷ [] → view v ≡ g o → map view before ++ left_over i place ≡ whole → map view after ++ left_over (i + 1) (place + 1) ≡ whole
  whole_more i place r t o before after v whole within is made below found pushed same so_far =
      let rest = left_over (i + 1) (place + 1) in
      ap (λ k. map view k ++ rest) pushed ∙ ap (λ k. k ++ rest) (map-append view before (v ∷ [])) ∙ append_assoc (map view before) (view v ∷ []) rest
      ∙ ap (λ k. map view before ++ k ∷ rest) same
      ∙ ap (λ k. map view before ++ k) (sym (ap (λ k. joined_opened k (map g (drop place opened))) (round_opens i r (Whole t) within is made)
      ∙ ap (λ k. joined_opened (Whole t ∷ map f (drop (i + 1) rounds)) (map g k)) (from_place opened place (place + 1) o refl below found))) ∙ so_far

  pub parts_more : (i place : ℕ) (r : R) (t u : T) (o p : X) (before after : List V) (v : V) (whole : List (List (List (List E)))) → i < length rounds → r ≡ get_or rounds i r → f r ≡ Parts t u
      → place + 1 < length opened → o ≡ get_or opened place o → p ≡ get_or opened (place + 1) p → after ≡ before ++ v ∷ [] → view v ≡ joined_matrices (g o) (g p) → map view before ++ left_over i place ≡ whole
      → map view after ++ left_over (i + 1) (place + 2) ≡ whole
  parts_more i place r t u o p before after v whole within is made below found next_found pushed same so_far =
      let rest = left_over (i + 1) (place + 2) in
      let both : drop place opened ≡ o ∷ (p ∷ drop (place + 2) opened)
      = from_place opened place (place + 1) o refl (omega arith) found ∙ ap (λ k. o ∷ k) (from_place opened (place + 1) (place + 2) p (omega arith) below next_found) in
      ap (λ k. map view k ++ rest) pushed ∙ ap (λ k. k ++ rest) (map-append view before (v ∷ [])) ∙ append_assoc (map view before) (view v ∷ []) rest
      ∙ ap (λ k. map view before ++ k ∷ rest) same
      ∙ ap (λ k. map view before ++ k) (sym (ap (λ k. joined_opened k (map g (drop place opened))) (round_opens i r (Parts t u) within is made)
      ∙ ap (λ k. joined_opened (Parts t u ∷ map f (drop (i + 1) rounds)) (map g k)) both)) ∙ so_far

  nothing_left : (i place : ℕ) (before : List V) (whole : List (List (List (List E)))) → left_over i place ≡ [] → map view before ++ left_over i place ≡ whole → map view before ≡ whole
  nothing_left i place before whole none so_far = sym (append-nil (map view before)) ∙ ap (λ k. map view before ++ k) (sym none) ∙ so_far

  pub whole_ended : (i place : ℕ) (r : R) (t : T) (before : List V) (whole : List (List (List (List E)))) → i < length rounds → r ≡ get_or rounds i r → f r ≡ Whole t → length opened ≤ place
      → map view before ++ left_over i place ≡ whole → map view before ≡ whole
  whole_ended i place r t before whole within is made ended so_far =
      nothing_left i place before whole
      (ap (λ k. joined_opened k (map g (drop place opened))) (round_opens i r (Whole t) within is made) ∙ ap (λ k. joined_opened (Whole t ∷ map f (drop (i + 1) rounds)) (map g k)) (drop_all place opened ended)) so_far

  few_opened : (t u : T) (ts : List (InParts T)) (os : List X) → length os < 2 → joined_opened (Parts t u ∷ ts) (map g os) ≡ []
  few_opened t u ts [] few = refl
  few_opened t u ts (o ∷ []) few = refl
  few_opened t u ts (o ∷ (p ∷ os)) few = absurd (omega arith)

  pub parts_ended : (i place : ℕ) (r : R) (t u : T) (before : List V) (whole : List (List (List (List E)))) → i < length rounds → r ≡ get_or rounds i r → f r ≡ Parts t u → length opened - place < 2
      → map view before ++ left_over i place ≡ whole → map view before ≡ whole
  parts_ended i place r t u before whole within is made few so_far =
      nothing_left i place before whole
      (ap (λ k. joined_opened k (map g (drop place opened))) (round_opens i r (Parts t u) within is made)
      ∙ few_opened t u (map f (drop (i + 1) rounds)) (drop place opened) (omega (arith, length-drop place opened, few))) so_far

  pub rounds_done : (i place : ℕ) (before : List V) (whole : List (List (List (List E)))) → length rounds ≤ i → map view before ++ left_over i place ≡ whole → map view before ≡ whole
  rounds_done i place before whole ended so_far = nothing_left i place before whole (ap (λ k. joined_opened (map f k) (map g (drop place opened))) (drop_all i rounds ended)) so_far

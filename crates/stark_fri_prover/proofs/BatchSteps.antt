-- The combination of columns, its quotient by X - z, and the sum of all of these.
use Rattle.std.proofs.Common.{◌≡◌, ◌∙◌, ◌⊎◌, inl, inr, ℕ, zero, suc, ◌+◌, ◌-◌, ◌<◌, ◌≤◌, List, [], ◌∷◌, ◌++◌, add-one, ap, append_assoc, arith, drop, get_or, length, map, refl, subst, sym, take}
use Rattle.std.specs.Prelude.{min, slice_set}
use Rattle.std.specs.List.{AllByRecursion, flat_map, range_with_len, zip}
use Rattle.std.proofs.lemmas.Slice.Zip.{get_or-zip, length-zip}
use Rattle.std.proofs.lemmas.Grind.{flat_map-append}
use Rattle.std.proofs.lemmas.List.{append-nil, drop_all, get_or-append_right, get_or-map, get_or_append_left, length-append, length-drop, length-map, take_all, take_more}
use Rattle.std.proofs.lemmas.List.FromFn.{fill_by_all, get_or-map-range_with_len, length-map-range_with_len}
use Rattle.stark_support.proofs.Places.{all_mapped_front, from_place}
use Rattle.stark_columns.specs.OpenedFacts.{one_is_done}
use Rattle.stark_support.specs.Extension.{IsBasis, basis_sum}
use Rattle.stark_support.specs.Embedding.{IsEmbedding}
use Rattle.stark_support.specs.Polynomial.{IsZeroPolynomial, quotient_by_root, scaled, value}
use Rattle.stark_support.specs.PolynomialFacts.{value_of_scaled, value_of_sum, value_of_zeros}
use Rattle.stark_support.specs.Powers.{power}
use Rattle.stark_support.specs.PowerFacts.{power-add}
use Rattle.stark_support.specs.Ring.{RingOps, RingLaws}
use Rattle.stark_support.specs.RingSolver.{solve, nothing, unit, ◌⊕◌, ◌⊗◌, v0, v1, v2, v3, v4, v5}
use Rattle.stark_support.specs.Claims.{RoundPoints}
use Rattle.stark_fri.specs.Parts.{FriDataView}
use Rattle.stark_folding.specs.Reduce.{Opened, reduced}
use Rattle.stark_fri_prover.specs.Batch.{AddsOpened, AddsQuotient, AreZeros, ColumnsFit, combination, combined_at, weighted_at, weights_from}
use Rattle.stark_fri_prover.specs.Batching.{IsBatch, opened_at, opened_in}
use Rattle.stark_fri_prover.specs.Words.{coordinate_at, coordinate_columns, element_of}
use Rattle.stark_fri_prover.proofs.WordSteps.{mapped_twice, no_sum, sum_of_both, whole_element}

mapped_same : {A B : Type 0} (f g : A → B) (xs : List A) → ((x : A) → f x ≡ g x) → map f xs ≡ map g xs
mapped_same f g [] same = refl
mapped_same f g (x ∷ xs) same = let first = same x in let rest = mapped_same f g xs same in λ k. first k ∷ rest k

-- ---- sums by coordinates

module _ {F E : Type 0} {base : RingOps F} {ring : RingOps E} {embed : F → E} (laws : RingLaws ring) (embeds : IsEmbedding base ring embed)
    {dimension : ℕ} {basis : List E} {coordinates : E → List F} (is_basis : IsBasis ring embed dimension basis coordinates) where
  abbrev at : ℕ → E → F
  at place element = coordinate_at coordinates base.zero place element

  abbrev places : List ℕ
  places = range_with_len 0 dimension

  by_places : (weights : List E) (cells : List F) → basis_sum ring (λ c. c) basis (map (λ d. embed (basis_sum base (λ c. c) (map (at d) weights) cells)) places) ≡ basis_sum ring (λ c. c) weights (map embed cells)
  by_places [] cells = ap (basis_sum ring (λ c. c) basis) (mapped_same (λ d. embed base.zero) (λ d. ring.zero) places (λ d. embeds.keeps.zero)) ∙ no_sum laws basis places
  by_places (w ∷ weights) [] = ap (basis_sum ring (λ c. c) basis) (mapped_same (λ d. embed base.zero) (λ d. ring.zero) places (λ d. embeds.keeps.zero)) ∙ no_sum laws basis places
  by_places (w ∷ weights) (v ∷ cells) =
      let rest : ℕ → E = λ d. embed (basis_sum base (λ c. c) (map (at d) weights) cells) in
      let here : ℕ → E = λ d. embed (at d w) in
      let step : (d : ℕ) → embed (base.add (base.mul (at d w) v) (basis_sum base (λ c. c) (map (at d) weights) cells)) ≡ ring.add (rest d) (ring.mul (here d) (embed v)) = λ d.
      embeds.keeps.add (base.mul (at d w) v) (basis_sum base (λ c. c) (map (at d) weights) cells) ∙ ap (λ t. ring.add t (rest d)) (embeds.keeps.mul (at d w) v)
      ∙ laws.add_comm (ring.mul (here d) (embed v)) (rest d) in
      ap (basis_sum ring (λ c. c) basis) (mapped_same (λ d. embed (base.add (base.mul (at d w) v) (basis_sum base (λ c. c) (map (at d) weights) cells))) (λ d. ring.add (rest d) (ring.mul (here d) (embed v))) places step)
      ∙ sum_of_both laws rest here (embed v) basis places
      ∙ ap (λ t. ring.add t (ring.mul (basis_sum ring (λ c. c) basis (map here places)) (embed v))) (by_places weights cells)
      ∙ ap (λ t. ring.add (basis_sum ring (λ c. c) weights (map embed cells)) (ring.mul t (embed v))) (sym (whole_element laws embeds is_basis w))
      ∙ laws.add_comm (basis_sum ring (λ c. c) weights (map embed cells)) (ring.mul w (embed v))

  -- The element whose coordinates are the weighted sums by the weights' coordinates is the weighted sum.
  pub sum_by_coordinates : (weights : List E) (cells row : List F) → row ≡ map (λ ws. basis_sum base (λ c. c) ws cells) (coordinate_columns dimension coordinates base.zero weights)
      → element_of ring embed basis row ≡ basis_sum ring (λ c. c) weights (map embed cells)
  sum_by_coordinates weights cells row is =
      ap (element_of ring embed basis) (is ∙ mapped_twice (λ d. map (at d) weights) (λ ws. basis_sum base (λ c. c) ws cells) places)
      ∙ ap (basis_sum ring (λ c. c) basis) (mapped_twice (λ d. basis_sum base (λ c. c) (map (at d) weights) cells) embed places) ∙ by_places weights cells

-- ---- the quotient is linear

module _ {E : Type 0} {ring : RingOps E} (laws : RingLaws ring) (z x : E) where
  abbrev Q : List E → E
  Q p = value ring (quotient_by_root ring z p) x

  quotient_of : (c : E) (p : List E) → Q (c ∷ p) ≡ ring.add (value ring p z) (ring.mul (Q p) x)
  quotient_of c [] = solve laws (x ∷ []) nothing (nothing ⊕ nothing ⊗ v0) refl
  quotient_of c (d ∷ p) = refl

  values_of_both : {A : Type 0} (f g : A → E) (a : E) (is : List A) → value ring (map (λ i. ring.add (f i) (ring.mul (g i) a)) is) z ≡ ring.add (value ring (map f is) z) (ring.mul (value ring (map g is) z) a)
  values_of_both f g a [] = solve laws (a ∷ []) nothing (nothing ⊕ nothing ⊗ v0) refl
  values_of_both f g a (i ∷ is) =
      ap (λ t. ring.add (ring.add (f i) (ring.mul (g i) a)) (ring.mul t z)) (values_of_both f g a is)
      ∙ solve laws (f i ∷ g i ∷ a ∷ z ∷ value ring (map f is) z ∷ value ring (map g is) z ∷ []) (v0 ⊕ v1 ⊗ v2 ⊕ (v4 ⊕ v5 ⊗ v2) ⊗ v3) (v0 ⊕ v4 ⊗ v3 ⊕ (v1 ⊕ v5 ⊗ v3) ⊗ v2) refl

  quotient_of_both : {A : Type 0} (f g : A → E) (a : E) (is : List A) → Q (map (λ i. ring.add (f i) (ring.mul (g i) a)) is) ≡ ring.add (Q (map f is)) (ring.mul (Q (map g is)) a)
  quotient_of_both f g a [] = solve laws (a ∷ []) nothing (nothing ⊕ nothing ⊗ v0) refl
  quotient_of_both f g a (i ∷ is) =
      quotient_of (ring.add (f i) (ring.mul (g i) a)) (map (λ i. ring.add (f i) (ring.mul (g i) a)) is)
      ∙ ap (λ t. ring.add t (ring.mul (Q (map (λ i. ring.add (f i) (ring.mul (g i) a)) is)) x)) (values_of_both f g a is)
      ∙ ap (λ t. ring.add (ring.add (value ring (map f is) z) (ring.mul (value ring (map g is) z) a)) (ring.mul t x)) (quotient_of_both f g a is)
      ∙ solve laws (value ring (map f is) z ∷ value ring (map g is) z ∷ a ∷ Q (map f is) ∷ Q (map g is) ∷ x ∷ []) (v0 ⊕ v1 ⊗ v2 ⊕ (v3 ⊕ v4 ⊗ v2) ⊗ v5) (v0 ⊕ v3 ⊗ v5 ⊕ (v1 ⊕ v4 ⊗ v5) ⊗ v2) refl
      ∙ ap (λ t. ring.add t (ring.mul (ring.add (value ring (map g is) z) (ring.mul (Q (map g is)) x)) a)) (sym (quotient_of (f i) (map f is)))
      ∙ ap (λ t. ring.add (Q (f i ∷ map f is)) (ring.mul t a)) (sym (quotient_of (g i) (map g is)))

  zero_values : (p : List E) → IsZeroPolynomial ring p → value ring p z ≡ ring.zero
  zero_values [] zeros = refl
  zero_values (c ∷ p) zeros = ap (λ t. ring.add t (ring.mul (value ring p z) z)) zeros.0 ∙ ap (λ t. ring.add ring.zero (ring.mul t z)) (zero_values p zeros.1) ∙ solve laws (z ∷ []) (nothing ⊕ nothing ⊗ v0) nothing refl

  quotient_of_zeros : (p : List E) → IsZeroPolynomial ring p → Q p ≡ ring.zero
  quotient_of_zeros [] zeros = refl
  quotient_of_zeros (c ∷ p) zeros =
      quotient_of c p ∙ ap (λ t. ring.add t (ring.mul (Q p) x)) (zero_values p zeros.1) ∙ ap (λ t. ring.add ring.zero (ring.mul t x)) (quotient_of_zeros p zeros.1)
      ∙ solve laws (x ∷ []) (nothing ⊕ nothing ⊗ v0) nothing refl

  values_padded : (p zeros : List E) → IsZeroPolynomial ring zeros → value ring (p ++ zeros) z ≡ value ring p z
  values_padded [] zeros all = zero_values zeros all
  values_padded (c ∷ p) zeros all = ap (λ t. ring.add c (ring.mul t z)) (values_padded p zeros all)

  quotient_padded : (p zeros : List E) → IsZeroPolynomial ring zeros → Q (p ++ zeros) ≡ Q p
  quotient_padded [] zeros all = quotient_of_zeros zeros all
  quotient_padded (c ∷ p) zeros all =
      quotient_of c (p ++ zeros) ∙ ap (λ t. ring.add t (ring.mul (Q (p ++ zeros)) x)) (values_padded p zeros all) ∙ ap (λ t. ring.add (value ring p z) (ring.mul t x)) (quotient_padded p zeros all)
      ∙ sym (quotient_of c p)

  all_zero : {A : Type 0} (xs : List A) → IsZeroPolynomial ring (map (λ a. ring.zero) xs)
  all_zero [] = tt
  all_zero (a ∷ xs) = (refl, all_zero xs)

get_or_own : {A : Type 0} (xs : List A) (k : ℕ) (d : A) → k < length xs → get_or xs k d ≡ get_or xs k (get_or xs k d)
get_or_own [] k d within = absurd (omega arith)
get_or_own (x ∷ xs) zero d within = refl
get_or_own (x ∷ xs) (suc k) d within = get_or_own xs k d (omega arith)

in_front : (k n : ℕ) → (k < n) ⊎ (n ≤ k)
in_front k n = grind arith

get_or_past : {A : Type 0} (xs : List A) (k : ℕ) (d : A) → length xs ≤ k → get_or xs k d ≡ d
get_or_past [] k d past = refl
get_or_past (x ∷ xs) zero d past = absurd (omega arith)
get_or_past (x ∷ xs) (suc k) d past = get_or_past xs k d (omega arith)

-- A column's coefficients, with zeros after them.
module _ {F E : Type 0} (ring : RingOps E) (embed : F → E) (nothing_here : F) (none : embed nothing_here ≡ ring.zero) where
  padding : (column : List F) (size : ℕ) → List E
  padding column size = map (λ _. ring.zero) (range_with_len 0 (size - length column))

  padded_column : (column : List F) (size : ℕ) → length column ≤ size → map (λ i. embed (get_or column i nothing_here)) (range_with_len 0 size) ≡ map embed column ++ padding column size
  unfolding padding
  padded_column column size fits =
      let whole = map embed column ++ padding column size in
      let front : length (map embed column) ≡ length column = length-map column embed in
      let behind : length (padding column size) ≡ size - length column = length-map-range_with_len (λ _. ring.zero) 0 (size - length column) in
      let number : length whole ≡ size = omega (arith, length-append (map embed column) (padding column size), front, behind, fits) in
      sym (fill_by_all (λ i. embed (get_or column i nothing_here)) whole size ring.zero number (λ k below.
      elim (in_front k (length column)) [
        | inl inside ↦ get_or_append_left (map embed column) (padding column size) ring.zero k (omega (arith, front, inside)) ∙ get_or-map embed column k nothing_here ring.zero inside
        | inr past ↦
            get_or-append_right (map embed column) (padding column size) (length column) k ring.zero front past
            ∙ get_or-map-range_with_len (λ _. ring.zero) 0 (size - length column) (k - length column) (k - length column) ring.zero (omega arith) (omega arith)
            ∙ sym (ap embed (get_or_past column k nothing_here past) ∙ none)
      ]))

module _ {F E : Type 0} {ring : RingOps E} (laws : RingLaws ring) (embed : F → E) (nothing_here : F) (none : embed nothing_here ≡ ring.zero) (alpha z x : E) where
  abbrev combined : List E → List (List F) → ℕ → List E
  combined weights columns size = combination ring embed nothing_here weights columns size

  -- The quotient of the combination is the sum of the columns' quotients.
  pub quotient_of_combination : (columns : List (List F)) (first : E) (size : ℕ) → ColumnsFit size columns
      → value ring (quotient_by_root ring z (combination ring embed nothing_here (weights_from ring alpha first (length columns)) columns size)) x
      ≡ ring.mul first (value ring (reduced ring alpha (opened_at embed columns z)) x)
  unfolding weights_from reduced padding
  quotient_of_combination [] first size fits = quotient_of_zeros laws z x (map (λ _. ring.zero) (range_with_len 0 size)) (all_zero laws z x (range_with_len 0 size)) ∙ solve laws (first ∷ []) nothing (v0 ⊗ nothing) refl
  quotient_of_combination (column ∷ columns) first size fits =
      let places = range_with_len 0 size in
      let later = weights_from ring alpha (ring.mul first alpha) (length columns) in
      let rest : ℕ → E = combined_at ring embed nothing_here later columns in
      let here : ℕ → E = λ i. embed (get_or column i nothing_here) in
      let others = value ring (reduced ring alpha (opened_at embed columns z)) x in
      let own = value ring (quotient_by_root ring z (map embed column)) x in
      ap (λ t. value ring (quotient_by_root ring z t) x)
      (mapped_same (combined_at ring embed nothing_here (first ∷ later) (column ∷ columns)) (λ i. ring.add (rest i) (ring.mul (here i) first)) places
      (λ i. solve laws (first ∷ here i ∷ rest i ∷ []) (v0 ⊗ v1 ⊕ v2) (v2 ⊕ v1 ⊗ v0) refl))
      ∙ quotient_of_both laws z x rest here first places
      ∙ ap (λ t. ring.add t (ring.mul (value ring (quotient_by_root ring z (map here places)) x) first)) (quotient_of_combination columns (ring.mul first alpha) size fits.1)
      ∙ ap (λ t. ring.add (ring.mul (ring.mul first alpha) others) (ring.mul t first))
      (ap (λ t. value ring (quotient_by_root ring z t) x) (padded_column ring embed nothing_here none column size fits.0)
      ∙ quotient_padded laws z x (map embed column) (padding ring embed nothing_here none column size) (all_zero laws z x (range_with_len 0 (size - length column))))
      ∙ solve laws (first ∷ alpha ∷ others ∷ own ∷ []) (v0 ⊗ v1 ⊗ v2 ⊕ v3 ⊗ v0) (v0 ⊗ (v3 ⊕ v1 ⊗ v2)) refl
      ∙ ap (λ t. ring.mul first (ring.add own t)) (sym (value_of_scaled laws alpha (reduced ring alpha (opened_at embed columns z)) x))
      ∙ ap (ring.mul first) (sym (value_of_sum laws (quotient_by_root ring z (map embed column)) (scaled ring alpha (reduced ring alpha (opened_at embed columns z))) x))

-- ---- one claim after the other

module _ {E : Type 0} {ring : RingOps E} (laws : RingLaws ring) (alpha : E) where
  value_of_joined : (xs ys : List (Opened E)) (x : E) → value ring (reduced ring alpha (xs ++ ys)) x ≡ ring.add (value ring (reduced ring alpha xs) x) (ring.mul (power ring alpha (length xs)) (value ring (reduced ring alpha ys) x))
  unfolding reduced power
  value_of_joined [] ys x = solve laws (value ring (reduced ring alpha ys) x ∷ []) v0 (nothing ⊕ unit ⊗ v0) refl
  value_of_joined (o ∷ xs) ys x =
      let q = quotient_by_root ring o.1 o.0 in
      let behind = value ring (reduced ring alpha ys) x in
      value_of_sum laws q (scaled ring alpha (reduced ring alpha (xs ++ ys))) x
      ∙ ap (ring.add (value ring q x)) (value_of_scaled laws alpha (reduced ring alpha (xs ++ ys)) x ∙ ap (ring.mul alpha) (value_of_joined xs ys x))
      ∙ solve laws (value ring q x ∷ alpha ∷ value ring (reduced ring alpha xs) x ∷ power ring alpha (length xs) ∷ behind ∷ []) (v0 ⊕ v1 ⊗ (v2 ⊕ v3 ⊗ v4)) (v0 ⊕ v1 ⊗ v2 ⊕ v1 ⊗ v3 ⊗ v4) refl
      ∙ ap (λ t. ring.add (ring.add (value ring q x) t) (ring.mul (ring.mul alpha (power ring alpha (length xs))) behind)) (sym (value_of_scaled laws alpha (reduced ring alpha xs) x))
      ∙ ap (λ t. ring.add t (ring.mul (ring.mul alpha (power ring alpha (length xs))) behind)) (sym (value_of_sum laws q (scaled ring alpha (reduced ring alpha xs)) x))

  pub adds_none : (sum : List E) (first : E) → AddsOpened ring alpha [] sum sum first first
  unfolding reduced power
  adds_none sum first = record {
    number = refl;
    values = λ x. solve laws (value ring sum x ∷ first ∷ []) v0 (v0 ⊕ v1 ⊗ nothing) refl;
    factor = solve laws (first ∷ []) v0 (v0 ⊗ unit) refl;
  }

  pub adds_both : (xs ys : List (Opened E)) (before middle after : List E) (first next last : E) → AddsOpened ring alpha xs before middle first next → AddsOpened ring alpha ys middle after next last
      → AddsOpened ring alpha (xs ++ ys) before after first last
  adds_both xs ys before middle after first next last one two = record {
    number = two.number ∙ one.number;
    values = λ x.
        let a = power ring alpha (length xs) in
        let p = value ring (reduced ring alpha xs) x in
        let q = value ring (reduced ring alpha ys) x in
        two.values x ∙ ap (λ t. ring.add t (ring.mul next q)) (one.values x) ∙ ap (λ t. ring.add (ring.add (value ring before x) (ring.mul first p)) (ring.mul t q)) one.factor
        ∙ solve laws (value ring before x ∷ first ∷ p ∷ a ∷ q ∷ []) (v0 ⊕ v1 ⊗ v2 ⊕ v1 ⊗ v3 ⊗ v4) (v0 ⊕ v1 ⊗ (v2 ⊕ v3 ⊗ v4)) refl
        ∙ ap (λ t. ring.add (value ring before x) (ring.mul first t)) (sym (value_of_joined xs ys x));
    factor = two.factor ∙ ap (λ t. ring.mul t (power ring alpha (length ys))) one.factor
        ∙ laws.mul_assoc first (power ring alpha (length xs)) (power ring alpha (length ys))
        ∙ ap (ring.mul first) (sym (power-add laws alpha (length xs) (length ys))) ∙ ap (λ n. ring.mul first (power ring alpha n)) (sym (length-append xs ys));
  }

  -- One more of the lists of what is opened.
  pub adds_more : {X : Type 0} (f : X → List (Opened E)) (items : List X) (i : ℕ) (item : X) (before middle after : List E) (first next last : E) → i < length items → item ≡ get_or items i item
      → AddsOpened ring alpha (flat_map f (take i items)) before middle first next → AddsOpened ring alpha (f item) middle after next last
      → AddsOpened ring alpha (flat_map f (take (i + 1) items)) before after first last
  adds_more f items i item before middle after first next last within is one two =
      let taken : flat_map f (take (i + 1) items) ≡ flat_map f (take i items) ++ f item
      = ap (flat_map f) (take_more items i item within ∙ ap (λ t. take i items ++ t ∷ []) (sym is)) ∙ flat_map-append f (take i items) (item ∷ []) ∙ ap (λ t. flat_map f (take i items) ++ t) (append-nil (f item)) in
      subst (λ os. AddsOpened ring alpha os before after first last) (sym taken) (adds_both (flat_map f (take i items)) (f item) before middle after first next last one two)

  pub adds_all : {X : Type 0} (f : X → List (Opened E)) (items : List X) (i : ℕ) (before after : List E) (first last : E) → length items ≤ i
      → AddsOpened ring alpha (flat_map f (take i items)) before after first last → AddsOpened ring alpha (flat_map f items) before after first last
  adds_all f items i before after first last ended one = subst (λ t. AddsOpened ring alpha (flat_map f t) before after first last) (take_all i items ended) one

  -- A combination's quotient is what the columns add.
  pub adds_combination : {F : Type 0} (embed : F → E) (nothing_here : F) → embed nothing_here ≡ ring.zero → (columns : List (List F)) (z first next : E) (weights before after : List E)
      → weights ≡ weights_from ring alpha first (length columns) → next ≡ ring.mul first (power ring alpha (length columns)) → ColumnsFit (length before) columns
      → AddsQuotient ring z (combination ring embed nothing_here weights columns (length before)) before after → AddsOpened ring alpha (opened_at embed columns z) before after first next
  adds_combination embed nothing_here none columns z first next weights before after are is fits adds = record {
    number = adds.number;
    values = λ x.
        adds.values x ∙ ap (λ ws. ring.add (value ring before x) (value ring (quotient_by_root ring z (combination ring embed nothing_here ws columns (length before))) x)) are
        ∙ ap (ring.add (value ring before x)) (quotient_of_combination laws embed nothing_here none alpha z x columns first (length before) fits);
    factor = is ∙ ap (λ n. ring.mul first (power ring alpha n)) (sym (length-map columns (λ column. (map embed column, z))));
  }

-- ---- in place

module _ {E : Type 0} {ring : RingOps E} (laws : RingLaws ring) where
  value_raised : (list : List E) (k : ℕ) (old new v x : E) → k < length list → old ≡ get_or list k old → new ≡ ring.add old v
      → value ring (slice_set list k new) x ≡ ring.add (value ring list x) (ring.mul v (power ring x k))
  unfolding power
  value_raised [] k old new v x within is sum = absurd (omega arith)
  value_raised (y ∷ ys) zero old new v x within is sum =
      ap (λ t. ring.add t (ring.mul (value ring ys x) x)) (sum ∙ ap (λ t. ring.add t v) is)
      ∙ solve laws (y ∷ v ∷ value ring ys x ∷ x ∷ []) (v0 ⊕ v1 ⊕ v2 ⊗ v3) (v0 ⊕ v2 ⊗ v3 ⊕ v1 ⊗ unit) refl
  value_raised (y ∷ ys) (suc k) old new v x within is sum =
      ap (λ t. ring.add y (ring.mul t x)) (value_raised ys k old new v x (omega arith) is sum)
      ∙ solve laws (y ∷ value ring ys x ∷ v ∷ power ring x k ∷ x ∷ []) (v0 ⊕ (v1 ⊕ v2 ⊗ v3) ⊗ v4) (v0 ⊕ v1 ⊗ v4 ⊕ v2 ⊗ (v4 ⊗ v3)) refl

  pub quotient_of_short : (z x : E) (p : List E) → length p ≤ 1 → value ring (quotient_by_root ring z p) x ≡ ring.zero
  quotient_of_short z x [] short = refl
  quotient_of_short z x (c ∷ []) short = refl
  quotient_of_short z x (c ∷ (d ∷ p)) short = absurd (omega arith)

  module _ (z : E) (p before : List E) where
    -- So far the values are raised by those of the quotient's upper part.
    abbrev pub RaisedTo : ℕ → List E → Type 0
    RaisedTo k sum = (x : E) → value ring sum x ≡ ring.add (value ring before x) (ring.mul (value ring (quotient_by_root ring z (drop k p)) x) (power ring x k))

    pub raised_none : (k : ℕ) → length p ≤ k + 1 → RaisedTo k before
    raised_none k near x =
        let short : length (drop k p) ≤ 1 = omega (arith, length-drop k p, near) in
        solve laws (value ring before x ∷ power ring x k ∷ []) v0 (v0 ⊕ nothing ⊗ v1) refl
        ∙ ap (λ t. ring.add (value ring before x) (ring.mul t (power ring x k))) (sym (quotient_of_short z x (drop k p) short))

    pub carried : (i j : ℕ) (c carry next : E) → j + 1 ≡ i → i ≤ length p → c ≡ get_or p j c → carry ≡ value ring (drop i p) z → next ≡ ring.add c (ring.mul carry z) → next ≡ value ring (drop j p) z
    carried i j c carry next after within is so_far sum =
        sum ∙ ap (λ t. ring.add c (ring.mul t z)) so_far ∙ ap (λ t. value ring t z) (sym (from_place p j i c after (omega arith) is))

    pub raised_more : (j k : ℕ) (next old new : E) (sum : List E) → k + 1 ≡ j → j ≤ length p → length sum ≡ length p → next ≡ value ring (drop j p) z → old ≡ get_or sum k old → new ≡ ring.add old next
        → RaisedTo j sum → RaisedTo k (slice_set sum k new)
    unfolding power
    raised_more j k next old new sum after within number carry is raise so_far x =
        let d : E = get_or p k ring.zero in
        let here : drop k p ≡ d ∷ drop j p = from_place p k j d after (omega arith) (get_or_own p k ring.zero (omega arith)) in
        let lower = value ring (quotient_by_root ring z (drop j p)) x in
        let a = power ring x k in
        let raised : power ring x j ≡ ring.mul x a = ap (power ring x) (sym after ∙ add-one k) in
        value_raised sum k old new next x (omega arith) is raise
        ∙ ap (λ t. ring.add t (ring.mul next a)) (so_far x ∙ ap (λ t. ring.add (value ring before x) (ring.mul lower t)) raised)
        ∙ ap (λ t. ring.add (ring.add (value ring before x) (ring.mul lower (ring.mul x a))) (ring.mul t a)) carry
        ∙ solve laws (value ring before x ∷ lower ∷ x ∷ a ∷ value ring (drop j p) z ∷ []) (v0 ⊕ v1 ⊗ (v2 ⊗ v3) ⊕ v4 ⊗ v3) (v0 ⊕ (v4 ⊕ v1 ⊗ v2) ⊗ v3) refl
        ∙ ap (λ t. ring.add (value ring before x) (ring.mul t a)) (sym (quotient_of laws z x d (drop j p)) ∙ ap (λ t. value ring (quotient_by_root ring z t) x) (sym here))

    pub raised_all : (k : ℕ) (sum : List E) → k ≡ 0 → RaisedTo k sum → (x : E) → value ring sum x ≡ ring.add (value ring before x) (value ring (quotient_by_root ring z p) x)
    unfolding power
    raised_all k sum none so_far x =
        let q = value ring (quotient_by_root ring z p) x in
        subst (λ k. RaisedTo k sum) none so_far x ∙ solve laws (value ring before x ∷ q ∷ []) (v0 ⊕ v1 ⊗ unit) (v0 ⊕ v1) refl

-- ---- weights

module _ {F : Type 0} (base : RingOps F) (place : ℕ) where
  no_cells : (weights : List F) → basis_sum base (λ c. c) weights [] ≡ base.zero
  no_cells [] = refl
  no_cells (w ∷ weights) = refl

  pub nothing_left : {A : Type 0} (f : A → List F) (columns : List A) (weights : List F) (n : ℕ) (s : F) → s ≡ base.zero → min (length columns) (length weights) ≤ n
      → s ≡ weighted_at base (map f (drop n columns)) place (drop n weights)
  nothing_left f columns weights n s none ended =
      none ∙ elim (one_is_done n (length columns) (length weights) ended) [
        | inl past ↦ sym (ap (λ t. weighted_at base (map f t) place (drop n weights)) (drop_all n columns past) ∙ no_cells (drop n weights))
        | inr past ↦ sym (ap (weighted_at base (map f (drop n columns)) place) (drop_all n weights past))
      ]

pub all_sums : {A B D : Type 0} (rows : List D) (f : A → B) (g : B → D) (xs : List A) (i : ℕ) → length xs ≤ i → rows ++ map (λ x. g (f x)) (drop i xs) ≡ map (λ x. g (f x)) xs → rows ≡ map g (map f xs)
all_sums rows f g xs i ended so_far = all_mapped_front rows (λ x. g (f x)) xs i ended so_far ∙ sym (mapped_twice f g xs)

module _ {E : Type 0} {ring : RingOps E} (laws : RingLaws ring) (alpha : E) where
  pub no_weights : (weights : List E) (first : E) (n m : ℕ) → weights ≡ [] → m ≡ n → weights ++ weights_from ring alpha first m ≡ weights_from ring alpha first n
  no_weights weights first n m none same = ap (λ t. t ++ weights_from ring alpha first m) none ∙ ap (weights_from ring alpha first) same

  pub first_factor : (first : E) → first ≡ ring.mul first (power ring alpha 0)
  unfolding power
  first_factor first = solve laws (first ∷ []) v0 (v0 ⊗ unit) refl

  pub next_factor : (first factor next : E) (i : ℕ) → next ≡ ring.mul factor alpha → factor ≡ ring.mul first (power ring alpha i) → next ≡ ring.mul first (power ring alpha (i + 1))
  unfolding power
  next_factor first factor next i is so_far =
      is ∙ ap (λ t. ring.mul t alpha) so_far ∙ solve laws (first ∷ power ring alpha i ∷ alpha ∷ []) (v0 ⊗ v1 ⊗ v2) (v0 ⊗ (v2 ⊗ v1)) refl ∙ ap (λ n. ring.mul first (power ring alpha n)) (sym (add-one i))

  pub weights_more : (weights after whole : List E) (factor next : E) (n i : ℕ) → i < n → after ≡ weights ++ factor ∷ [] → next ≡ ring.mul factor alpha
      → weights ++ weights_from ring alpha factor (n - i) ≡ whole → after ++ weights_from ring alpha next (n - (i + 1)) ≡ whole
  unfolding weights_from
  weights_more weights after whole factor next n i within pushed is so_far =
      let left : suc (n - (i + 1)) ≡ n - i = omega arith in
      ap (λ t. t ++ weights_from ring alpha next (n - (i + 1))) pushed ∙ append_assoc weights (factor ∷ []) (weights_from ring alpha next (n - (i + 1)))
      ∙ ap (λ t. weights ++ factor ∷ weights_from ring alpha t (n - (i + 1))) is ∙ ap (λ m. weights ++ weights_from ring alpha factor m) left ∙ so_far

  pub weights_all : (weights whole : List E) (factor : E) (n i : ℕ) → n ≤ i → weights ++ weights_from ring alpha factor (n - i) ≡ whole → weights ≡ whole
  unfolding weights_from
  weights_all weights whole factor n i ended so_far =
      let none : 0 ≡ n - i = omega arith in
      sym (append-nil weights) ∙ ap (λ m. weights ++ weights_from ring alpha factor m) none ∙ so_far

pub length_kept : {A : Type 0} (xs : List A) (k : ℕ) (v : A) → length (slice_set xs k v) ≡ length xs
length_kept [] k v = refl
length_kept (x ∷ xs) zero v = refl
length_kept (x ∷ xs) (suc k) v = ap suc (length_kept xs k v)

-- ---- items of lists that are read

module _ {A B : Type 0} (f : A → B) where
  pub mapped_item : (xs : List A) (i : ℕ) (x : A) → i < length xs → x ≡ get_or xs i x → f x ≡ get_or (map f xs) i (f x)
  mapped_item xs i x within is = ap f is ∙ sym (get_or-map f xs i x (f x) within)

  pub all_at_place : (P : B → Type 0) (xs : List A) (i : ℕ) (x : A) → i < length xs → x ≡ get_or xs i x → AllByRecursion P (map f xs) → P (f x)
  all_at_place P [] i x within is all = absurd (omega arith)
  all_at_place P (y ∷ xs) zero x within is all = subst (λ t. P (f t)) (sym is) all.0
  all_at_place P (y ∷ xs) (suc i) x within is all = all_at_place P xs i x (omega arith) is all.1

module _ {A B D G : Type 0} (f : A → B) (g : D → G) (xs : List A) (ys : List D) where
  pub zipped_length : length (zip (map f xs) (map g ys)) ≡ min (length xs) (length ys)
  zipped_length = length-zip (map f xs) (map g ys) ∙ ap (λ n. min n (length (map g ys))) (length-map xs f) ∙ ap (min (length xs)) (length-map ys g)

  pub zipped_item : (i : ℕ) (x : A) (y : D) → i < length xs → i < length ys → x ≡ get_or xs i x → y ≡ get_or ys i y → (f x, g y) ≡ get_or (zip (map f xs) (map g ys)) i (f x, g y)
  zipped_item i x y in_xs in_ys is_x is_y =
      let d : B × G = (f x, g y) in
      let first = mapped_item f xs i x in_xs is_x in
      let second = mapped_item g ys i y in_ys is_y in
      (λ k. (first k, second k)) ∙ sym (get_or-zip (map f xs) (map g ys) i d (omega (arith, in_xs, length-map xs f)) (omega (arith, in_ys, length-map ys g)))

-- What is added to zeros is the batch.
pub from_zeros : {F E : Type 0} {ring : RingOps E} (laws : RingLaws ring) (alpha : E) (embed : F → E) (size : ℕ) (rounds : List (RoundPoints E (FriDataView F))) (zeros batch : List E) (last : E) → AreZeros ring size zeros
    → AddsOpened ring alpha (opened_in embed rounds) zeros batch ring.one last → IsBatch ring embed alpha size rounds batch
from_zeros {ring = ring} laws alpha embed size rounds zeros batch last none adds = record {
  number = adds.number ∙ none.0;
  values = λ x.
      let v = value ring (reduced ring alpha (opened_in embed rounds)) x in
      adds.values x ∙ ap (λ t. ring.add t (ring.mul ring.one v)) (value_of_zeros laws zeros x none.1) ∙ solve laws (v ∷ []) (nothing ⊕ unit ⊗ v0) v0 refl;
}

-- A list in memory that was written over by one of its length.
pub written_back : {A : Type 0} (after old : List A) (n : ℕ) → length after ≡ length old → n ≡ length old → take n (after ++ drop (length after) old) ≡ after
written_back after old n number all =
    ap (λ t. take n (after ++ t)) (drop_all (length after) old (omega (arith, number))) ∙ ap (take n) (append-nil after) ∙ take_all n after (omega (arith, number, all))

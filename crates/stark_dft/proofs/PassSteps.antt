-- One more pair of places of a pass.
use Rattle.std.proofs.Common.{◌≡◌, ◌≢◌, ◌⊎◌, ◌∙◌, ℕ, ◌+◌, ◌-◌, ◌*◌, ◌/◌, ◌<◌, ◌≤◌, List, length, get_or, sym, ap, arith, subst, inl, inr, refl, add-one}
use Rattle.std.specs.Prelude.{slice_set}
use Rattle.std.proofs.lemmas.Nat.{div-mul-add, row_fits}
use Rattle.std.proofs.lemmas.Bool.{cases_order}
use Rattle.std.proofs.lemmas.List.{get_or_default, get_or-set_same, get_or-set_other, length-set}
use Rattle.std.proofs.Math.Nat.{suc-mul, div-mul-le_self, lt-div-mul-add}
use Rattle.stark_support.specs.Ring.{RingOps, RingLaws, difference}
use Rattle.stark_support.specs.Powers.{power}
use Rattle.stark_support.specs.PowerFacts.{power-add}
use Rattle.stark_dft.specs.Passes.{AreWritten, IsEvaluatedBelow, entry, doubled, point_at, odd_part, opposite_difference}

-- the end of a block lies within all of them
pub block_end : (b blocks h low : ℕ) → low ≡ b * h → b < blocks → low + h ≤ blocks * h
block_end b blocks h low e less = let fits = row_fits b h blocks h less (omega arith) in omega arith

pub next_low : (b h low : ℕ) → low ≡ b * h → low + h ≡ (b + 1) * h
next_low b h low e = ap (λ m. m + h) e ∙ sym (suc-mul b h) ∙ ap (λ m. m * h) (sym (add-one b))

offset_in : (low n h : ℕ) → low ≤ n → n < low + h → n - low < h
offset_in low n h p q = omega arith

offset_back : (low n : ℕ) → low ≤ n → n ≡ low + (n - low)
offset_back low n p = omega arith

-- the block of a place
pub block_of : (b h low n : ℕ) → low ≡ b * h → low ≤ n → n < low + h → n / h ≡ b
block_of b h low n e from to =
    let q = n - low in
    let back : n ≡ b * h + q = offset_back low n from ∙ ap (λ m. m + q) e in
    ap (λ m. m / h) back ∙ div-mul-add b h q (offset_in low n h from to)

-- blocks before that of n end before it starts
starts : (h j n : ℕ) → 0 < h → j ≤ n → (j / h * h ≡ n / h * h) ⊎ (j / h * h + h ≤ n / h * h)
starts h j n positive less = elim (cases_order (j / h) (n / h)) [
  | inl same ↦ inl (ap (λ m. m * h) same)
  | inr apart ↦ elim apart [
    | inl before ↦ inr (row_fits (j / h) h (n / h) h before (omega arith))
    | inr after ↦
        let one = row_fits (n / h) h (j / h) h after (omega arith) in
        let two = div-mul-le_self j h in
        let three = lt-div-mul-add {a = n} {b = h} positive in
        absurd (omega arith)
  ]
]

-- The places of pairs of blocks are all different.
pub record ArePlacesApart (place other : ℕ → ℕ) (n : ℕ) : Type 0 where
  pub itself : place n ≢ other n
  pub one_one : (j : ℕ) → j < n → place j ≢ place n
  pub one_two : (j : ℕ) → j < n → place j ≢ other n
  pub two_one : (j : ℕ) → j < n → other j ≢ place n
  pub two_two : (j : ℕ) → j < n → other j ≢ other n

pub middle_apart : (middle n : ℕ) → n < middle → ArePlacesApart (λ j. j) (λ j. middle + j) n
middle_apart middle n within = record {
  itself = λ e. absurd (omega arith);
  one_one = λ j h e. absurd (omega arith);
  one_two = λ j h e. absurd (omega arith);
  two_one = λ j h e. absurd (omega arith);
  two_two = λ j h e. absurd (omega arith);
}

pub doubled_apart : (h n : ℕ) → 0 < h → ArePlacesApart (doubled h) (λ j. doubled h j + h) n
doubled_apart h n positive = record {
  itself = λ e. absurd (omega arith);
  one_one = λ j less e. elim (starts h j n positive (omega arith)) [ inl same ↦ absurd (omega arith) | inr before ↦ absurd (omega arith) ];
  one_two = λ j less e.
      let one = lt-div-mul-add {a = n} {b = h} positive in
      elim (starts h j n positive (omega arith)) [ inl same ↦ absurd (omega arith) | inr before ↦ absurd (omega arith) ];
  two_one = λ j less e.
      let one = lt-div-mul-add {a = n} {b = h} positive in
      let two = div-mul-le_self j h in
      let three = lt-div-mul-add {a = j} {b = h} positive in
      let four = div-mul-le_self n h in
      elim (starts h j n positive (omega arith)) [ inl same ↦ absurd (omega arith) | inr before ↦ absurd (omega arith) ];
  two_two = λ j less e. elim (starts h j n positive (omega arith)) [ inl same ↦ absurd (omega arith) | inr before ↦ absurd (omega arith) ];
}

-- places of one block aren't others of it, nor of those before
behind_apart : (b h low n j : ℕ) → low ≡ b * h → low ≤ n → n < low + h → n ≤ j → j < low + h → doubled h j ≢ doubled h n + h
behind_apart b h low n j is_low from to behind within e =
    let one : j / h * h + j ≡ b * h + j = ap (λ m. m * h + j) (block_of b h low j is_low (omega arith) within) in
    let two : n / h * h + n + h ≡ b * h + n + h = ap (λ m. m * h + n + h) (block_of b h low n is_low from to) in
    absurd (omega (arith, e, one, two, from, within))

block_apart : (b h low n j : ℕ) → low ≡ b * h → low ≤ n → n < low + h → j < low + h → doubled h j ≢ doubled h n + h
block_apart b h low n j is_low from to within = elim (cases_order j n) [
  | inl same ↦ behind_apart b h low n j is_low from to (omega arith) within
  | inr differ ↦ elim differ [
    | inl earlier ↦ (doubled_apart h n (omega arith)).one_two j earlier
    | inr later ↦ behind_apart b h low n j is_low from to (omega arith) within
  ]
]

-- Before n each place has its value, and before m each other.
pub record ArePartlyWritten {K : Type 0} (ring : RingOps K) (place other : ℕ → ℕ) (value second : ℕ → K) (n m : ℕ) (list : List K) : Type 0 where
  pub one : (j : ℕ) → j < n → entry ring list (place j) ≡ value j
  pub two : (j : ℕ) → j < m → entry ring list (other j) ≡ second j

abbrev pub IsPartlyInterpolated : {K : Type 0} → RingOps K → ℕ → K → K → ℕ → ℕ → ℕ → List K → List K → Type 0
IsPartlyInterpolated ring half first ratio middle n m source target =
    ArePartlyWritten ring (doubled half) (λ j. doubled half j + half)
    (λ j. ring.add (entry ring source j) (entry ring source (middle + j)))
    (λ j. ring.mul (point_at ring first ratio (j / half)) (opposite_difference ring middle source j)) n m target

module _ {K : Type 0} (ring : RingOps K) where
  -- what was read is what stands there
  pub was_read : (xs : List K) (i j : ℕ) (x : K) → i < length xs → x ≡ get_or xs i x → i ≡ j → x ≡ entry ring xs j
  was_read xs i j x within is e = is ∙ get_or_default xs i x ring.zero within ∙ ap (λ k. entry ring xs k) e

  module _ (place other : ℕ → ℕ) (value second : ℕ → K) where
    pub none_written : (list : List K) → AreWritten ring place other value second 0 list
    none_written list = record { one = λ j h. absurd (omega arith); two = λ j h. absurd (omega arith) }

    pub parts_of : (n : ℕ) (list : List K) → AreWritten ring place other value second n list → ArePartlyWritten ring place other value second n n list
    parts_of n list h = record { one = h.one; two = h.two }

    pub of_parts : (n m k : ℕ) (list : List K) → n ≡ k → m ≡ k → ArePartlyWritten ring place other value second n m list → AreWritten ring place other value second k list
    of_parts n m k list e f h = record { one = λ j less. h.one j (omega arith); two = λ j less. h.two j (omega arith) }

    pub same_parts : (n k m : ℕ) (list : List K) → n ≡ k → ArePartlyWritten ring place other value second n m list → ArePartlyWritten ring place other value second k m list
    same_parts n k m list e h = record { one = λ j less. h.one j (omega arith); two = h.two }

    pub place_written : (n m : ℕ) (list : List K) (p : ℕ) (x : K) → ((j : ℕ) → j < n → place j ≢ place n) → ((j : ℕ) → j < m → other j ≢ place n) → p ≡ place n → p < length list → x ≡ value n
        → ArePartlyWritten ring place other value second n m list → ArePartlyWritten ring place other value second (n + 1) m (slice_set list p x)
    place_written n m list p x one_apart two_apart at_p p_in is_x before =
        let here : entry ring (slice_set list p x) p ≡ x = get_or-set_same list p x ring.zero p_in in
        let kept = λ (k : ℕ) (a : k ≢ place n). get_or-set_other list p k x ring.zero (λ e. a (e ∙ at_p)) in
        record {
          one = λ j less. elim (cases_order j n) [
            | inl same ↦ ap (λ k. entry ring (slice_set list p x) (place k)) same ∙ ap (entry ring (slice_set list p x)) (sym at_p) ∙ here ∙ is_x ∙ ap value (sym same)
            | inr differ ↦ elim differ [
              | inl earlier ↦ kept (place j) (one_apart j earlier) ∙ before.one j earlier
              | inr later ↦ absurd (omega arith)
            ]
          ];
          two = λ j less. kept (other j) (two_apart j less) ∙ before.two j less;
        }

    pub other_written : (n m : ℕ) (list : List K) (q : ℕ) (y : K) → ((j : ℕ) → j < n → place j ≢ other m) → ((j : ℕ) → j < m → other j ≢ other m) → q ≡ other m → q < length list → y ≡ second m
        → ArePartlyWritten ring place other value second n m list → ArePartlyWritten ring place other value second n (m + 1) (slice_set list q y)
    other_written n m list q y one_apart two_apart at_q q_in is_y before =
        let there : entry ring (slice_set list q y) q ≡ y = get_or-set_same list q y ring.zero q_in in
        let kept = λ (k : ℕ) (a : k ≢ other m). get_or-set_other list q k y ring.zero (λ e. a (e ∙ at_q)) in
        record {
          one = λ j less. kept (place j) (one_apart j less) ∙ before.one j less;
          two = λ j less. elim (cases_order j m) [
            | inl same ↦ ap (λ k. entry ring (slice_set list q y) (other k)) same ∙ ap (entry ring (slice_set list q y)) (sym at_q) ∙ there ∙ is_y ∙ ap second (sym same)
            | inr differ ↦ elim differ [
              | inl earlier ↦ kept (other j) (two_apart j earlier) ∙ before.two j earlier
              | inr later ↦ absurd (omega arith)
            ]
          ];
        }

    pub one_more_written : (n : ℕ) (list : List K) (p q : ℕ) (x y : K) → ArePlacesApart place other n → p ≡ place n → q ≡ other n → p < length list → q < length list
        → x ≡ value n → y ≡ second n → AreWritten ring place other value second n list → AreWritten ring place other value second (n + 1) (slice_set (slice_set list p x) q y)
    one_more_written n list p q x y apart at_p at_q p_in q_in is_x is_y before =
        let first = place_written n n list p x apart.one_one apart.two_one at_p p_in is_x (parts_of n list before) in
        let longer : length (slice_set list p x) ≡ length list = length-set list p x in
        let others : (j : ℕ) → j < n + 1 → place j ≢ other n = λ j less e. elim (cases_order j n) [
          | inl same ↦ apart.itself (ap place (sym same) ∙ e)
          | inr differ ↦ elim differ [ inl earlier ↦ apart.one_two j earlier e | inr later ↦ absurd (omega arith) ]
        ] in
        of_parts (n + 1) (n + 1) (n + 1) (slice_set (slice_set list p x) q y) refl refl (other_written (n + 1) n (slice_set list p x) q y others apart.two_two at_q (omega arith) is_y first)

    pub same_written : (n m : ℕ) (list : List K) → n ≡ m → AreWritten ring place other value second n list → AreWritten ring place other value second m list
    same_written n m list e h = subst (λ k. AreWritten ring place other value second k list) e h

module _ {K : Type 0} (ring : RingOps K) (laws : RingLaws ring) where
  pub first_point : (first ratio : K) → first ≡ point_at ring first ratio 0
  unfolding power
  first_point first ratio = sym (laws.mul_one first)

  pub next_point : (first ratio point next : K) (i : ℕ) → point ≡ point_at ring first ratio i → next ≡ ring.mul point ratio → next ≡ point_at ring first ratio (i + 1)
  unfolding power
  next_point first ratio point next i is e =
      e ∙ ap (λ t. ring.mul t ratio) is ∙ laws.mul_assoc first (power ring ratio i) ratio
      ∙ ap (ring.mul first) (ap (ring.mul (power ring ratio i)) (sym (laws.mul_one ratio)) ∙ sym (power-add laws ratio i 1))

  -- A pair is evaluated: the places of the code, and what stood there.
  pub evaluated_pair : (h : ℕ) (first ratio : K) (blocks b low n : ℕ) (source target : List K) (even odd point product sum rest : K)
      → low ≡ b * h → b < blocks → low ≤ n → n < low + h → length source ≡ blocks * h + blocks * h → length target ≡ length source
      → point ≡ point_at ring first ratio b
      → even ≡ get_or source (low + n) even → odd ≡ get_or source (low + n + h) odd → product ≡ ring.mul point odd → sum ≡ ring.add even product → rest ≡ difference ring even product
      → IsEvaluatedBelow ring h first ratio (blocks * h) n source target → IsEvaluatedBelow ring h first ratio (blocks * h) (n + 1) source (slice_set (slice_set target n sum) (blocks * h + n) rest)
  evaluated_pair h first ratio blocks b low n source target even odd point product sum rest is_low less from to long as_long is_point read_even read_odd is_product is_sum is_rest before =
      let inside = block_end b blocks h low is_low less in
      let block : n / h ≡ b = block_of b h low n is_low from to in
      let start : low + n ≡ doubled h n = ap (λ m. m + n) (is_low ∙ ap (λ m. m * h) (sym block)) in
      let is_even : even ≡ entry ring source (doubled h n) = was_read ring source (low + n) (doubled h n) even (omega arith) read_even start in
      let is_odd : odd ≡ entry ring source (doubled h n + h) = was_read ring source (low + n + h) (doubled h n + h) odd (omega arith) read_odd (ap (λ m. m + h) start) in
      let is_part : product ≡ odd_part ring h first ratio source n =
      is_product ∙ ap (λ t. ring.mul t odd) (is_point ∙ ap (point_at ring first ratio) (sym block)) ∙ ap (ring.mul (point_at ring first ratio (n / h))) is_odd in
      one_more_written ring _ _ _ _ n target n (blocks * h + n) sum rest (middle_apart (blocks * h) n (omega arith)) refl refl (omega arith) (omega arith)
      (is_sum ∙ ap (λ t. ring.add t product) is_even ∙ ap (ring.add (entry ring source (doubled h n))) is_part)
      (is_rest ∙ ap (λ t. difference ring t product) is_even ∙ ap (difference ring (entry ring source (doubled h n))) is_part) before

  -- A sum is written, with the products of the blocks before: the places of the code, and what stood there.
  pub interpolated_sum : (h : ℕ) (first ratio : K) (blocks b low n : ℕ) (source target : List K) (here opposite sum : K)
      → low ≡ b * h → b < blocks → low ≤ n → n < low + h → length source ≡ blocks * h + blocks * h → length target ≡ length source
      → here ≡ get_or source n here → opposite ≡ get_or source (blocks * h + n) opposite → sum ≡ ring.add here opposite
      → IsPartlyInterpolated ring h first ratio (blocks * h) n low source target → IsPartlyInterpolated ring h first ratio (blocks * h) (n + 1) low source (slice_set target (low + n) sum)
  interpolated_sum h first ratio blocks b low n source target here opposite sum is_low less from to long as_long read_here read_opposite is_sum before =
      let inside = block_end b blocks h low is_low less in
      let block : n / h ≡ b = block_of b h low n is_low from to in
      let start : low + n ≡ doubled h n = ap (λ m. m + n) (is_low ∙ ap (λ m. m * h) (sym block)) in
      let is_here : here ≡ entry ring source n = was_read ring source n n here (omega arith) read_here refl in
      let is_opposite : opposite ≡ entry ring source (blocks * h + n) = was_read ring source (blocks * h + n) (blocks * h + n) opposite (omega arith) read_opposite refl in
      let apart = doubled_apart h n (omega arith) in
      place_written ring _ _ _ _ n low target (low + n) sum apart.one_one (λ j k. apart.two_one j (omega (arith, k, from))) start (omega arith)
      (is_sum ∙ ap (λ t. ring.add t opposite) is_here ∙ ap (ring.add (entry ring source n)) is_opposite) before

  -- A product is written, with the sums of the whole block.
  pub interpolated_product : (h : ℕ) (first ratio : K) (blocks b low n : ℕ) (source target : List K) (here opposite inverse rest product : K)
      → low ≡ b * h → b < blocks → low ≤ n → n < low + h → length source ≡ blocks * h + blocks * h → length target ≡ length source
      → inverse ≡ point_at ring first ratio b
      → here ≡ get_or source n here → opposite ≡ get_or source (blocks * h + n) opposite → rest ≡ difference ring here opposite → product ≡ ring.mul inverse rest
      → IsPartlyInterpolated ring h first ratio (blocks * h) (low + h) n source target → IsPartlyInterpolated ring h first ratio (blocks * h) (low + h) (n + 1) source (slice_set target (low + n + h) product)
  interpolated_product h first ratio blocks b low n source target here opposite inverse rest product is_low less from to long as_long is_point read_here read_opposite is_rest is_product before =
      let inside = block_end b blocks h low is_low less in
      let block : n / h ≡ b = block_of b h low n is_low from to in
      let start : low + n ≡ doubled h n = ap (λ m. m + n) (is_low ∙ ap (λ m. m * h) (sym block)) in
      let is_here : here ≡ entry ring source n = was_read ring source n n here (omega arith) read_here refl in
      let is_opposite : opposite ≡ entry ring source (blocks * h + n) = was_read ring source (blocks * h + n) (blocks * h + n) opposite (omega arith) read_opposite refl in
      let is_difference : rest ≡ opposite_difference ring (blocks * h) source n = is_rest ∙ ap (λ t. difference ring t opposite) is_here ∙ ap (difference ring (entry ring source n)) is_opposite in
      other_written ring _ _ _ _ (low + h) n target (low + n + h) product (λ j within. block_apart b h low n j is_low from to within) (doubled_apart h n (omega arith)).two_two
      (ap (λ m. m + h) start) (omega arith)
      (is_product ∙ ap (λ t. ring.mul t rest) (is_point ∙ ap (point_at ring first ratio) (sym block)) ∙ ap (ring.mul (point_at ring first ratio (n / h))) is_difference) before

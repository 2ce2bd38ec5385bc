-- Sums of coefficients times powers, and their coordinates.
use Rattle.std.proofs.Common.{◌≡◌, ◌∙◌, ℕ, zero, suc, ◌+◌, ◌-◌, ◌<◌, ◌≤◌, List, [], ◌∷◌, ◌++◌, length, map, take, drop, get_or, Some, refl, sym, ap, arith, add-one}
use Rattle.std.specs.List.{slice_get}
use Rattle.std.specs.Prelude.{option_map}
use Rattle.std.proofs.lemmas.List.{append-nil, length-map, length-drop, length-take-le, drop-drop, take-append-drop}
use Rattle.std.proofs.lemmas.Option.{slice_get-map, slice_get-get_or, slice_get_past, slice_get_within, get_or_from_slice_get, same_Some}
use Rattle.stark_support.specs.Ring.{RingOps, RingLaws}
use Rattle.stark_support.specs.RingFacts.{mul_zero, zero_mul}
use Rattle.stark_support.specs.RingSolver.{solve, nothing, unit, ◌⊕◌, ◌⊗◌, v0, v1, v2, v3, v4}
use Rattle.stark_support.specs.Embedding.{IsEmbedding}
use Rattle.stark_support.specs.Extension.{IsBasis, basis_sum}
use Rattle.stark_support.specs.Points.{powers_from}
use Rattle.stark_support.specs.PointFacts.{powers_length}
use Rattle.stark_support.specs.Powers.{power}
use Rattle.stark_support.specs.Polynomial.{polynomial_sum, scaled, value_over}
use Rattle.stark_support.proofs.Places.{from_place}
use Rattle.stark_columns.specs.ColumnFacts.{power_at}

module _ {K : Type 0} (ring : RingOps K) (g : K) where
  pub zeroth_power : (x : K) → x ≡ ring.one → x ≡ power ring g 0
  unfolding power
  zeroth_power x e = e

  pub next_power : (i : ℕ) (x : K) → x ≡ power ring g i → ring.mul g x ≡ power ring g (i + 1)
  unfolding power
  next_power i x e = ap (ring.mul g) e ∙ ap (power ring g) (sym (add-one i))

-- a part of a list, and what is behind it
part_length : {A : Type 0} (xs : List A) (start end : ℕ) → end ≤ length xs → length (take (end - start) (drop start xs)) ≡ end - start
part_length xs start end h = let left : end - start ≤ length (drop start xs) = omega (arith, length-drop start xs) in length-take-le (end - start) (drop start xs) left

part_and_rest : {A : Type 0} (xs : List A) (start end : ℕ) → start ≤ end → take (end - start) (drop start xs) ++ drop end xs ≡ drop start xs
part_and_rest xs start end h =
    let there : start + (end - start) ≡ end = omega arith in
    ap (λ k. take (end - start) (drop start xs) ++ drop k xs) (sym there) ∙ ap (λ t. take (end - start) (drop start xs) ++ t) (sym (drop-drop (end - start) start xs)) ∙ take-append-drop (end - start) (drop start xs)

module _ {F E : Type 0} {ring : RingOps E} (laws : RingLaws ring) (embed : F → E) (x : E) where
  -- a value as the sum of the coefficients times the powers from some one on
  value_by_powers_from : (cs : List F) (m n : ℕ) → length cs ≤ n → basis_sum ring embed cs (powers_from ring x m n) ≡ ring.mul (power ring x m) (value_over ring embed cs x)
  unfolding power
  value_by_powers_from [] m n h = sym (mul_zero laws _)
  value_by_powers_from (c ∷ cs) m zero h = absurd (omega arith)
  value_by_powers_from (c ∷ cs) m (suc n) h =
      ap (ring.add (ring.mul (embed c) (power ring x m))) (value_by_powers_from cs (suc m) n (omega arith)) ∙
      solve laws (embed c ∷ power ring x m ∷ x ∷ value_over ring embed cs x ∷ []) (v0 ⊗ v1 ⊕ v2 ⊗ v1 ⊗ v3) (v1 ⊗ (v0 ⊕ v3 ⊗ v2)) refl

  pub value_by_powers : (cs : List F) (n : ℕ) → length cs ≤ n → basis_sum ring embed cs (powers_from ring x 0 n) ≡ value_over ring embed cs x
  unfolding power
  value_by_powers cs n h = value_by_powers_from cs 0 n h ∙ solve laws (value_over ring embed cs x ∷ []) (unit ⊗ v0) v0 refl

  pub value_of_append : (p q : List F) → value_over ring embed (p ++ q) x ≡ ring.add (value_over ring embed p x) (ring.mul (power ring x (length p)) (value_over ring embed q x))
  unfolding power
  value_of_append [] q = solve laws (value_over ring embed q x ∷ []) v0 (nothing ⊕ unit ⊗ v0) refl
  value_of_append (c ∷ p) q =
      ap (λ w. ring.add (embed c) (ring.mul w x)) (value_of_append p q) ∙
      solve laws (embed c ∷ x ∷ value_over ring embed p x ∷ power ring x (length p) ∷ value_over ring embed q x ∷ []) (v0 ⊕ (v2 ⊕ v3 ⊗ v4) ⊗ v1) (v0 ⊕ v2 ⊗ v1 ⊕ v1 ⊗ v3 ⊗ v4) refl

  -- a block of coefficients before those whose value is known
  pub one_more_block : (column block : List F) (start end n : ℕ) (value sum power_here product next : E) → start ≤ end → end ≤ length column → block ≡ take (end - start) (drop start column) → end - start ≤ n
      → value ≡ value_over ring embed (drop end column) x → sum ≡ basis_sum ring embed block (powers_from ring x 0 n) → power_here ≡ power ring x (end - start)
      → product ≡ ring.mul value power_here → next ≡ ring.add sum product → next ≡ value_over ring embed (drop start column) x
  one_more_block column block start end n value sum power_here product next ordered within is few so_far summed raised ep en =
      let count : length block ≡ end - start = ap length is ∙ part_length column start end within in
      en ∙ ap (λ t. ring.add t product) (summed ∙ value_by_powers block n (omega (arith, count)))
      ∙ ap (ring.add (value_over ring embed block x)) (ep ∙ laws.mul_comm value power_here ∙ ap (ring.mul power_here) so_far ∙ ap (λ t. ring.mul t (value_over ring embed (drop end column) x)) (raised ∙ ap (power ring x) (sym count)))
      ∙ sym (value_of_append block (drop end column))
      ∙ ap (λ t. value_over ring embed t x) (ap (λ t. t ++ drop end column) is ∙ part_and_rest column start end ordered)

-- a power that is read from a list of them
pub power_read : {E : Type 0} (ring : RingOps E) (x : E) (powers : List E) (n i : ℕ) (p : E) → powers ≡ powers_from ring x 0 n → i < n → p ≡ get_or powers i p → p ≡ power ring x i
power_read ring x powers n i p are within is =
    is ∙ ap (λ t. get_or t i p) are ∙ get_or_from_slice_get (powers_from ring x 0 n) i (power ring x (0 + i)) p (power_at ring x 0 n i within) ∙ ap (power ring x) (omega arith)

-- all powers of a count were listed
pub all_of_powers : {E : Type 0} (ring : RingOps E) (x : E) (done : List E) (n i : ℕ) → n ≤ i → done ++ powers_from ring x i (n - i) ≡ powers_from ring x 0 n → done ≡ powers_from ring x 0 (length done)
all_of_powers ring x done n i ended so_far =
    let nothing_left : n - i ≡ 0 = omega arith in
    let all : done ≡ powers_from ring x 0 n = sym (append-nil done) ∙ ap (λ k. done ++ powers_from ring x i k) (sym nothing_left) ∙ so_far in
    all ∙ ap (powers_from ring x 0) (sym (ap length all ∙ powers_length ring x 0 n))

-- the rest of a list from one of its elements on
from_slice_get : {A : Type 0} (xs : List A) (i j : ℕ) (x : A) → i + 1 ≡ j → slice_get xs i ≡ Some x → drop i xs ≡ x ∷ drop j xs
from_slice_get xs i j x next e =
    let within : i < length xs = slice_get_within xs i x e in
    from_place xs i j x next within (sym (get_or_from_slice_get xs i x x e))

-- one more element of the basis times a coordinate
pub one_more_coordinate : {F E : Type 0} (ring : RingOps E) (embed : F → E) (basis : List E) (coordinates : List F) (i j : ℕ) (e : E) (c : F) (above product sum next : E) → i + 1 ≡ j
    → slice_get basis i ≡ Some e → slice_get coordinates i ≡ Some c → above ≡ embed c → product ≡ ring.mul e above → next ≡ ring.add product sum
    → sum ≡ basis_sum ring (λ c. c) (drop j basis) (map embed (drop j coordinates)) → next ≡ basis_sum ring (λ c. c) (drop i basis) (map embed (drop i coordinates))
one_more_coordinate ring embed basis coordinates i j e c above product sum next after at_basis at_coordinates is_above is_product is_next so_far =
    is_next ∙ ap (λ t. ring.add t sum) (is_product ∙ ap (ring.mul e) is_above) ∙ ap (ring.add (ring.mul e (embed c))) so_far
    ∙ ap (λ t. basis_sum ring (λ c. c) (e ∷ drop j basis) (map embed t)) (sym (from_slice_get coordinates i j c after at_coordinates))
    ∙ ap (λ t. basis_sum ring (λ c. c) t (map embed (drop i coordinates))) (sym (from_slice_get basis i j e after at_basis))

module _ {F : Type 0} (base : RingOps F) where
  -- lists of one length are added place by place
  sum_at : (p q : List F) (i : ℕ) (a b : F) → slice_get p i ≡ Some a → slice_get q i ≡ Some b → slice_get (polynomial_sum base p q) i ≡ Some (base.add a b)
  sum_at [] q i a b ea eb = absurd (cc (slice_get_past {X = F} [] i (omega arith), ea))
  sum_at (c ∷ p) [] i a b ea eb = absurd (cc (slice_get_past {X = F} [] i (omega arith), eb))
  sum_at (c ∷ p) (d ∷ q) zero a b ea eb = ap Some (ap (λ t. base.add t d) (same_Some c a ea) ∙ ap (base.add a) (same_Some d b eb))
  sum_at (c ∷ p) (d ∷ q) (suc i) a b ea eb = sum_at p q i a b ea eb

  sum_count : (p q : List F) (n : ℕ) → length p ≡ n → length q ≡ n → length (polynomial_sum base p q) ≡ n
  sum_count [] q n h k = k
  sum_count (c ∷ p) [] n h k = h
  sum_count (c ∷ p) (d ∷ q) zero h k = absurd (omega arith)
  sum_count (c ∷ p) (d ∷ q) (suc n) h k = ap suc (sum_count p q n (omega arith) (omega arith))

module _ {F E : Type 0} {base : RingOps F} {ring : RingOps E} {embed : F → E} (base_laws : RingLaws base) (laws : RingLaws ring) (embeds : IsEmbedding base ring embed)
    {dimension : ℕ} {basis : List E} {coordinates : E → List F} (is_basis : IsBasis ring embed dimension basis coordinates) where
  sum_of_sums : (es : List E) (us vs : List F) (n : ℕ) → length us ≡ n → length vs ≡ n
      → ring.add (basis_sum ring (λ c. c) es (map embed us)) (basis_sum ring (λ c. c) es (map embed vs)) ≡ basis_sum ring (λ c. c) es (map embed (polynomial_sum base us vs))
  sum_of_sums [] us vs n h k = laws.add_zero ring.zero
  sum_of_sums (e ∷ es) [] [] n h k = laws.add_zero ring.zero
  sum_of_sums (e ∷ es) [] (b ∷ vs) n h k = absurd (omega (arith, h, k))
  sum_of_sums (e ∷ es) (a ∷ us) [] n h k = absurd (omega (arith, h, k))
  sum_of_sums (e ∷ es) (a ∷ us) (b ∷ vs) zero h k = absurd (omega arith)
  sum_of_sums (e ∷ es) (a ∷ us) (b ∷ vs) (suc n) h k =
      solve laws (e ∷ embed a ∷ embed b ∷ basis_sum ring (λ c. c) es (map embed us) ∷ basis_sum ring (λ c. c) es (map embed vs) ∷ []) (v0 ⊗ v1 ⊕ v3 ⊕ (v0 ⊗ v2 ⊕ v4)) (v0 ⊗ (v1 ⊕ v2) ⊕ (v3 ⊕ v4)) refl
      ∙ ap (λ t. ring.add (ring.mul e t) (ring.add (basis_sum ring (λ c. c) es (map embed us)) (basis_sum ring (λ c. c) es (map embed vs)))) (sym (embeds.keeps.add a b)) ∙ ap (ring.add (ring.mul e (embed (base.add a b)))) (sum_of_sums es us vs n (omega arith) (omega arith))

  sum_scaled : (c : F) (es : List E) (us : List F) → ring.mul (embed c) (basis_sum ring (λ c. c) es (map embed us)) ≡ basis_sum ring (λ c. c) es (map embed (scaled base c us))
  sum_scaled c [] us = mul_zero laws _
  sum_scaled c (e ∷ es) [] = mul_zero laws _
  sum_scaled c (e ∷ es) (a ∷ us) =
      solve laws (embed c ∷ e ∷ embed a ∷ basis_sum ring (λ c. c) es (map embed us) ∷ []) (v0 ⊗ (v1 ⊗ v2 ⊕ v3)) (v1 ⊗ (v0 ⊗ v2) ⊕ v0 ⊗ v3) refl
      ∙ ap (λ t. ring.add (ring.mul e t) (ring.mul (embed c) (basis_sum ring (λ c. c) es (map embed us)))) (sym (embeds.keeps.mul c a)) ∙ ap (ring.add (ring.mul e (embed (base.mul c a)))) (sum_scaled c es us)

  coordinates_of_sum : (x y : E) → coordinates (ring.add x y) ≡ polynomial_sum base (coordinates x) (coordinates y)
  coordinates_of_sum x y =
      ap coordinates (ap (λ t. ring.add t y) (is_basis.sum x) ∙ ap (ring.add (basis_sum ring (λ c. c) basis (map embed (coordinates x)))) (is_basis.sum y)
      ∙ sum_of_sums basis (coordinates x) (coordinates y) dimension (is_basis.count x) (is_basis.count y))
      ∙ is_basis.unique (polynomial_sum base (coordinates x) (coordinates y)) (sum_count base (coordinates x) (coordinates y) dimension (is_basis.count x) (is_basis.count y))

  coordinates_of_product : (c : F) (x : E) → coordinates (ring.mul (embed c) x) ≡ map (base.mul c) (coordinates x)
  coordinates_of_product c x =
      ap coordinates (ap (ring.mul (embed c)) (is_basis.sum x) ∙ sum_scaled c basis (coordinates x))
      ∙ is_basis.unique (scaled base c (coordinates x)) (length-map (coordinates x) (base.mul c) ∙ is_basis.count x)

  product_at : (c : F) (p : E) (i : ℕ) (k : F) → slice_get (coordinates p) i ≡ Some k → slice_get (coordinates (ring.mul (embed c) p)) i ≡ Some (base.mul c k)
  product_at c p i k e = ap (λ t. slice_get t i) (coordinates_of_product c p) ∙ slice_get-map (base.mul c) (coordinates p) i ∙ ap (option_map (base.mul c)) e

  -- one more product in a sum, at one coordinate
  pub coordinate_of_more : (c : F) (p rest : E) (i : ℕ) (k s : F) → slice_get (coordinates p) i ≡ Some k → slice_get (coordinates rest) i ≡ Some s
      → slice_get (coordinates (ring.add (ring.mul (embed c) p) rest)) i ≡ Some (base.add (base.mul c k) s)
  coordinate_of_more c p rest i k s ek es =
      ap (λ t. slice_get t i) (coordinates_of_sum (ring.mul (embed c) p) rest)
      ∙ sum_at base (coordinates (ring.mul (embed c) p)) (coordinates rest) i (base.mul c k) s (product_at c p i k ek) es

  pub coordinate_of_zero : (i : ℕ) → i < dimension → slice_get (coordinates ring.zero) i ≡ Some base.zero
  coordinate_of_zero i h =
      let k : F = get_or (coordinates ring.zero) i base.zero in
      ap (λ t. slice_get (coordinates t) i) (sym (mul_zero laws (embed base.zero)))
      ∙ product_at base.zero ring.zero i k (slice_get-get_or (coordinates ring.zero) i base.zero (omega (arith, h, is_basis.count ring.zero)))
      ∙ ap Some (zero_mul base_laws k)

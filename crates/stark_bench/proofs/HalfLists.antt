-- Products of lists place by place, and quotients by divisors in two halves, from those by the halves' products.
use Rattle.std.proofs.Common.{◌≡◌, ◌≢◌, ◌∙◌, ℕ, zero, suc, ◌+◌, ◌*◌, ◌-◌, ◌/◌, ◌%◌, ◌<◌, List, [], ◌∷◌, ◌++◌, All, Some, length, get_or, take, ap, sym, arith, refl, subst, inl, inr}
use Rattle.std.specs.List.{slice_get}
use Rattle.std.specs.Simd.Lanes.{zip2}
use Rattle.std.proofs.lemmas.Bool.{cases_lt}
use Rattle.std.proofs.lemmas.Simd.{length-zip2}
use Rattle.std.proofs.lemmas.Option.{get_or_from_slice_get}
use Rattle.std.proofs.lemmas.List.{append_assoc, get_or_append_left, get_or-append-add, get_or_default, length-append, take_more}
use Rattle.std.proofs.Math.Nat.{add-mul-mod_self_left, mod-add-div}
use Rattle.stark_support.specs.ListFacts.{slice_get-append_left, slice_get-append_right}
use Rattle.stark_support.specs.FieldFacts.{cancel_left, nonzero_product}
use Rattle.stark_support.specs.Ring.{RingOps, FieldLaws}
use Rattle.stark_support.specs.RingSolver.{solve, ◌⊗◌, v0, v1, v2}
use Rattle.stark_bench.specs.PointLists.{AreQuotients}

module _ {K : Type 0} (ring : RingOps K) where
  pub at_product : (xs ys : List K) (i : ℕ) → i < length xs → i < length ys → slice_get (zip2 ring.mul xs ys) i ≡ Some (ring.mul (get_or xs i ring.zero) (get_or ys i ring.zero))
  at_product [] ys i h k = absurd (omega arith)
  at_product (x ∷ xs) [] i h k = absurd (omega arith)
  at_product (x ∷ xs) (y ∷ ys) zero h k = refl
  at_product (x ∷ xs) (y ∷ ys) (suc i) h k = at_product xs ys i (omega arith) (omega arith)

  -- a loop's step
  pub one_more_product : (xs ys before : List K) (i : ℕ) (x y : K) → i < length xs → length xs ≡ length ys → x ≡ get_or xs i x → y ≡ get_or ys i y
      → (before ++ take i (zip2 ring.mul xs ys)) ++ ring.mul x y ∷ [] ≡ before ++ take (i + 1) (zip2 ring.mul xs ys)
  one_more_product xs ys before i x y h e first second =
      let all = zip2 ring.mul xs ys in
      let left : get_or xs i ring.zero ≡ x = get_or_default xs i ring.zero x h ∙ sym first in
      let right : get_or ys i ring.zero ≡ y = get_or_default ys i ring.zero y (omega (arith, h, e)) ∙ sym second in
      let is : ring.mul x y ≡ get_or all i ring.zero = sym (get_or_from_slice_get all i _ ring.zero (at_product xs ys i h (omega (arith, h, e))) ∙ ap (λ a. ring.mul a (get_or ys i ring.zero)) left ∙ ap (ring.mul x) right) in
      append_assoc before (take i all) (ring.mul x y ∷ []) ∙ ap (λ p. before ++ (take i all ++ p ∷ [])) is ∙ ap (λ l. before ++ l) (sym (take_more all i ring.zero (omega (arith, h, length-zip2 ring.mul xs ys e))))

module _ {K : Type 0} {ring : RingOps K} {inverse : K → K} (laws : FieldLaws ring inverse) where
  inverse_of_first : (x y : K) → x ≢ ring.zero → y ≢ ring.zero → ring.mul (inverse (ring.mul x y)) y ≡ inverse x
  inverse_of_first x y hx hy =
      cancel_left laws x (ring.mul (inverse (ring.mul x y)) y) (inverse x) hx
      (solve laws.of_ring (x ∷ y ∷ inverse (ring.mul x y) ∷ []) (v0 ⊗ (v2 ⊗ v1)) ((v0 ⊗ v1) ⊗ v2) refl
      ∙ laws.mul_inverse (ring.mul x y) (nonzero_product laws x y hx hy) ∙ sym (laws.mul_inverse x hx))

  -- a quotient by a product, times the one factor, is the quotient by the other
  over_first : (a x y s : K) → x ≢ ring.zero → y ≢ ring.zero → s ≡ ring.mul a (inverse (ring.mul x y)) → ring.mul s y ≡ ring.mul a (inverse x)
  over_first a x y s hx hy is = ap (λ t. ring.mul t y) is ∙ laws.of_ring.mul_assoc a (inverse (ring.mul x y)) y ∙ ap (ring.mul a) (inverse_of_first x y hx hy)

  over_second : (a x y s : K) → x ≢ ring.zero → y ≢ ring.zero → s ≡ ring.mul a (inverse (ring.mul x y)) → ring.mul s x ≡ ring.mul a (inverse y)
  over_second a x y s hx hy is = over_first a y x s hy hx (is ∙ ap (λ p. ring.mul a (inverse p)) (laws.of_ring.mul_comm x y))

  module _ (elements front back divisors : List K) (half : ℕ) (first : length front ≡ half) (second : length back ≡ half) (e : divisors ≡ front ++ back) (nonzero : All (λ d. d ≢ ring.zero) divisors) where
    number : length divisors ≡ half + half
    number = omega (arith, ap length e, length-append front back, first, second)

    in_front : (k : ℕ) → k < half → get_or divisors k ring.zero ≡ get_or front k ring.zero
    in_front k h = ap (λ l. get_or l k ring.zero) e ∙ get_or_append_left front back ring.zero k (omega (arith, h, first))

    in_back : (k : ℕ) → get_or divisors (half + k) ring.zero ≡ get_or back k ring.zero
    in_back k = ap (λ l. get_or l (half + k) ring.zero) e ∙ ap (λ n. get_or (front ++ back) (n + k) ring.zero) (sym first) ∙ get_or-append-add front back k ring.zero

    front_nonzero : (k : ℕ) → k < half → get_or front k ring.zero ≢ ring.zero
    front_nonzero k h = subst (λ y. y ≢ ring.zero) (in_front k h) (nonzero k ring.zero (omega (arith, h, number)))

    back_nonzero : (k : ℕ) → k < half → get_or back k ring.zero ≢ ring.zero
    back_nonzero k h = subst (λ y. y ≢ ring.zero) (in_back k) (nonzero (half + k) ring.zero (omega (arith, h, number)))

    both_number : length (zip2 ring.mul front back) ≡ half
    both_number = length-zip2 ring.mul front back (first ∙ sym second) ∙ first

    both_at : (k : ℕ) → k < half → slice_get (zip2 ring.mul front back) k ≡ Some (ring.mul (get_or front k ring.zero) (get_or back k ring.zero))
    both_at k h = at_product ring front back k (omega (arith, h, first)) (omega (arith, h, second))

    pub both_nonzero : (both : List K) → both ≡ zip2 ring.mul front back → All (λ d. d ≢ ring.zero) both
    both_nonzero both is = subst (λ l. All (λ d. d ≢ ring.zero) l) (sym is) (λ k d within.
        let below : k < half = omega (arith, within, both_number) in
        subst (λ p. p ≢ ring.zero) (sym (get_or_from_slice_get (zip2 ring.mul front back) k _ d (both_at k below)))
        (nonzero_product laws (get_or front k ring.zero) (get_or back k ring.zero) (front_nonzero k below) (back_nonzero k below)))

    module _ (whole : half % length elements ≡ 0) (shared : List K) (quotients : AreQuotients ring inverse elements (zip2 ring.mul front back) half shared) where
      -- what is shared at a place
      shared_at : (k : ℕ) → k < half → get_or shared k ring.zero ≡ ring.mul (get_or elements (k % length elements) ring.zero) (inverse (ring.mul (get_or front k ring.zero) (get_or back k ring.zero)))
      shared_at k h = get_or_from_slice_get shared k _ ring.zero (quotients.at_place k h)
          ∙ ap (λ p. ring.mul (get_or elements (k % length elements) ring.zero) (inverse p)) (get_or_from_slice_get (zip2 ring.mul front back) k _ ring.zero (both_at k h))

      same_element : (k : ℕ) → (half + k) % length elements ≡ k % length elements
      same_element k =
          let m = length elements in
          let turns : half ≡ m * (half / m) = sym (sym (ap (λ r. r + m * (half / m)) whole) ∙ mod-add-div half m) ∙ omega arith in
          ap (λ n. n % m) (ap (λ n. n + k) turns ∙ omega arith) ∙ add-mul-mod_self_left k m (half / m)

      front_quotient : (k : ℕ) → k < half → slice_get (zip2 ring.mul shared back) k ≡ Some (ring.mul (get_or elements (k % length elements) ring.zero) (inverse (get_or divisors k ring.zero)))
      front_quotient k h = at_product ring shared back k (omega (arith, h, quotients.number)) (omega (arith, h, second))
          ∙ ap Some (over_first (get_or elements (k % length elements) ring.zero) (get_or front k ring.zero) (get_or back k ring.zero) (get_or shared k ring.zero) (front_nonzero k h) (back_nonzero k h) (shared_at k h)
          ∙ ap (λ d. ring.mul (get_or elements (k % length elements) ring.zero) (inverse d)) (sym (in_front k h)))

      back_quotient : (k : ℕ) → k < half → slice_get (zip2 ring.mul shared front) k ≡ Some (ring.mul (get_or elements ((half + k) % length elements) ring.zero) (inverse (get_or divisors (half + k) ring.zero)))
      back_quotient k h = at_product ring shared front k (omega (arith, h, quotients.number)) (omega (arith, h, first))
          ∙ ap Some (over_second (get_or elements (k % length elements) ring.zero) (get_or front k ring.zero) (get_or back k ring.zero) (get_or shared k ring.zero) (front_nonzero k h) (back_nonzero k h) (shared_at k h)
          ∙ ap (λ d. ring.mul (get_or elements (k % length elements) ring.zero) (inverse d)) (sym (in_back k))
          ∙ ap (λ r. ring.mul (get_or elements r ring.zero) (inverse (get_or divisors (half + k) ring.zero))) (sym (same_element k)))

      front_number : length (zip2 ring.mul shared back) ≡ half
      front_number = length-zip2 ring.mul shared back (quotients.number ∙ sym second) ∙ quotients.number

      back_number : length (zip2 ring.mul shared front) ≡ half
      back_number = length-zip2 ring.mul shared front (quotients.number ∙ sym first) ∙ quotients.number

      pub halves : (over : List K) → over ≡ zip2 ring.mul shared back ++ zip2 ring.mul shared front → AreQuotients ring inverse elements divisors (length divisors) over
      halves over is = record {
        number = omega (arith, ap length is, length-append (zip2 ring.mul shared back) (zip2 ring.mul shared front), front_number, back_number, number);
        at_place = λ i h. ap (λ l. slice_get l i) is ∙ elim (cases_lt i half) [
          | inl below ↦ slice_get-append_left (zip2 ring.mul shared back) (zip2 ring.mul shared front) i (omega (arith, below, front_number)) ∙ front_quotient i below
          | inr behind ↦
              let place : half + (i - half) ≡ i = omega (arith, behind) in
              slice_get-append_right (zip2 ring.mul shared back) (zip2 ring.mul shared front) half i front_number behind ∙ back_quotient (i - half) (omega (arith, h, behind, number))
              ∙ ap (λ j. Some (ring.mul (get_or elements (j % length elements) ring.zero) (inverse (get_or divisors j ring.zero)))) place
        ];
      }

-- Lists of values made of other lists, place by place; the values of a subgroup's vanishing polynomial repeat.
use Rattle.std.proofs.Common.{◌≡◌, ◌≢◌, ◌∙◌, ℕ, ◌+◌, ◌*◌, ◌-◌, ◌/◌, ◌%◌, ◌^◌, ◌<◌, ◌≤◌, List, [], ◌∷◌, ◌++◌, All, Some, length, map, take, option_map, get_or, ap, sym, arith, refl, subst, drop, inl, inr}
use Rattle.std.specs.List.{slice_get}
use Rattle.std.proofs.lemmas.List.{get_or-drop, length-append, length-drop, length-map, length-take-le}
use Rattle.std.proofs.lemmas.Nat.{pow-add}
use Rattle.std.proofs.lemmas.Bool.{cases_lt}
use Rattle.std.proofs.lemmas.Option.{get_or_from_slice_get, slice_get-get_or, slice_get-map}
use Rattle.std.proofs.Math.Nat.{add-mod_right, mod-eq_of_lt, mod-lt, mod-add-div}
use Rattle.stark_support.specs.CosetValueFacts.{all_values}
use Rattle.stark_support.specs.LogarithmFacts.{two_power_at_most}
use Rattle.stark_support.specs.SelectorFacts.{IsSubgroup, first_is_quotient, not_first_point}
use Rattle.stark_support.specs.Selectors.{Subgroup, first_row_selector, transition_selector}
use Rattle.stark_support.specs.Powers.{power}
use Rattle.stark_support.specs.PowerFacts.{power-add, power-mul, power-one, power-power, power-zero}
use Rattle.stark_support.specs.Ring.{RingOps, RingLaws, FieldLaws, difference}
use Rattle.stark_support.specs.Coset.{TwoAdicCoset, AreValuesOn, coset_point, subgroup_vanishing}
use Rattle.stark_support.specs.ListFacts.{one_more_number, one_more_listed, slice_get-append_left, slice_get-append_right, slice_get-take}
use Rattle.stark_support.specs.RingSolver.{solve, ◌⊗◌, v0, v1, v2}
use Rattle.stark_bench.specs.PointLists.{AreQuotients, AreRepeated, AreTurned, RepeatOn}

module _ {K : Type 0} (ring : RingOps K) (inverse : K → K) (elements divisors : List K) where
  pub no_quotients : (over : List K) → over ≡ [] → AreQuotients ring inverse elements divisors 0 over
  no_quotients over e = record { number = ap length e; at_place = λ i h. absurd (omega arith) }

  pub one_more_quotient : (n : ℕ) (before after : List K) (q : K) → AreQuotients ring inverse elements divisors n before → after ≡ before ++ q ∷ [] → q ≡ ring.mul (get_or elements (n % length elements) ring.zero) (inverse (get_or divisors n ring.zero))
      → AreQuotients ring inverse elements divisors (n + 1) after
  one_more_quotient n before after q so_far e is = record {
    number = one_more_number before after q n so_far.number e;
    at_place = one_more_listed (λ i. Some (ring.mul (get_or elements (i % length elements) ring.zero) (inverse (get_or divisors i ring.zero)))) before after q n so_far.number so_far.at_place (ap Some (sym is)) e;
  }

module _ {K : Type 0} (list : List K) where
  pub nothing_repeated : (all : List K) → all ≡ [] → AreRepeated list 0 all
  nothing_repeated all e = record { number = ap length e; at_place = λ i h. absurd (omega arith) }

  pub one_more_repeated : (n : ℕ) (before after : List K) (x : K) → AreRepeated list n before → after ≡ before ++ x ∷ [] → slice_get list (n % length list) ≡ Some x → AreRepeated list (n + 1) after
  one_more_repeated n before after x so_far e is = record {
    number = one_more_number before after x n so_far.number e;
    at_place = one_more_listed (λ i. slice_get list (i % length list)) before after x n so_far.number so_far.at_place is e;
  }

module _ {K : Type 0} (ring : RingOps K) (factor : K) (elements : List K) (further : ℕ) (within : further ≤ length elements) where
  back_number : length (map (ring.mul factor) (drop further elements)) ≡ length elements - further
  back_number = length-map (drop further elements) (ring.mul factor) ∙ length-drop further elements

  back_turned : (i : ℕ) → i < length elements - further → slice_get (map (ring.mul factor) (drop further elements)) i ≡ Some (ring.mul factor (get_or elements ((i + further) % length elements) ring.zero))
  back_turned i h =
      let place : further + i ≡ (i + further) % length elements = omega arith ∙ sym (mod-eq_of_lt (omega arith)) in
      slice_get-map (ring.mul factor) (drop further elements) i
      ∙ ap (option_map (ring.mul factor)) (slice_get-get_or (drop further elements) i ring.zero (omega (arith, h, length-drop further elements)) ∙ ap Some (get_or-drop further elements i ring.zero))
      ∙ ap (λ k. Some (ring.mul factor (get_or elements k ring.zero))) place

  front_turned : (i : ℕ) → length elements - further ≤ i → i < length elements → slice_get (map (ring.mul factor) (take further elements)) (i - (length elements - further)) ≡ Some (ring.mul factor (get_or elements ((i + further) % length elements) ring.zero))
  front_turned i past h =
      let n = length elements in
      let j = i - (n - further) in
      let below : j < further = omega arith in
      let round : i + further ≡ j + n = omega arith in
      let place : j ≡ (i + further) % n = sym (ap (λ k. k % n) round ∙ add-mod_right j n ∙ mod-eq_of_lt (omega arith)) in
      slice_get-map (ring.mul factor) (take further elements) j
      ∙ ap (option_map (ring.mul factor)) (slice_get-take elements further j below ∙ slice_get-get_or elements j ring.zero (omega arith))
      ∙ ap (λ k. Some (ring.mul factor (get_or elements k ring.zero))) place

  -- the elements from a place on and then those before it
  pub turned_parts : (all : List K) → all ≡ map (ring.mul factor) (drop further elements) ++ map (ring.mul factor) (take further elements) → AreTurned ring factor elements further (length elements) all
  turned_parts all e = record {
    number = omega (arith, ap length e, length-append (map (ring.mul factor) (drop further elements)) (map (ring.mul factor) (take further elements)), back_number, length-map (take further elements) (ring.mul factor), length-take-le further elements within);
    at_place = λ i h. ap (λ l. slice_get l i) e ∙ elim (cases_lt i (length elements - further)) [
      | inl below ↦ slice_get-append_left (map (ring.mul factor) (drop further elements)) (map (ring.mul factor) (take further elements)) i (omega (arith, below, back_number)) ∙ back_turned i below
      | inr past ↦ slice_get-append_right (map (ring.mul factor) (drop further elements)) (map (ring.mul factor) (take further elements)) (length elements - further) i back_number past ∙ front_turned i past h
    ];
  }

module _ {K : Type 0} (ring : RingOps K) (root : ℕ → K) (coset : TwoAdicCoset K) where
  pub mapped_values : (n : ℕ) (f g : K → K) (xs ys : List K) → AreValuesOn ring root coset n f xs → ys ≡ map g xs → AreValuesOn ring root coset n (λ x. g (f x)) ys
  mapped_values n f g xs ys listed e = record {
    number = ap length e ∙ length-map xs g ∙ listed.number;
    at_row = λ i h. ap (λ l. slice_get l i) e ∙ slice_get-map g xs i ∙ ap (option_map g) (listed.at_row i h);
  }

  pub same_values : (n : ℕ) (f g : K → K) (xs : List K) → ((i : ℕ) → i < n → f (coset_point ring root coset i) ≡ g (coset_point ring root coset i)) → AreValuesOn ring root coset n f xs → AreValuesOn ring root coset n g xs
  same_values n f g xs same listed = record { number = listed.number; at_row = λ i h. listed.at_row i h ∙ ap Some (same i h) }

  pub repeated_values : (n p : ℕ) (f : K → K) (xs all : List K) → 0 < p → ((i : ℕ) → f (coset_point ring root coset (i % p)) ≡ f (coset_point ring root coset i)) → AreValuesOn ring root coset p f xs → AreRepeated xs n all
      → AreValuesOn ring root coset n f all
  repeated_values n p f xs all some repeats listed again = record {
    number = again.number;
    at_row = λ i h. again.at_place i h ∙ ap (λ m. slice_get xs (i % m)) listed.number ∙ listed.at_row (i % p) (mod-lt i some) ∙ ap Some (repeats i);
  }

  pub quotient_values : (inverse : K → K) (n : ℕ) (f g : K → K) (xs ds over : List K) → RepeatOn ring root coset f xs → AreValuesOn ring root coset n g ds → AreQuotients ring inverse xs ds (length ds) over
      → AreValuesOn ring root coset n (λ x. ring.mul (f x) (inverse (g x))) over
  quotient_values inverse n f g xs ds over elements divisors quotients = record {
    number = quotients.number ∙ divisors.number;
    at_row = λ i h. quotients.at_place i (omega (arith, h, divisors.number))
        ∙ ap (λ x. Some (ring.mul x (inverse (get_or ds i ring.zero)))) (get_or_from_slice_get xs (i % length xs) (f (coset_point ring root coset i)) ring.zero (elements.at_row i)) ∙
        ap (λ d. Some (ring.mul (f (coset_point ring root coset i)) (inverse d))) (get_or_from_slice_get ds i (g (coset_point ring root coset i)) ring.zero (divisors.at_row i h));
  }

  pub all_are : (n : ℕ) (f : K → K) (P : K → Type 0) (xs : List K) → ((i : ℕ) → i < n → P (f (coset_point ring root coset i))) → AreValuesOn ring root coset n f xs → All P xs
  all_are n f P xs each listed k d within =
      let below : k < n = omega (arith, within, listed.number) in
      subst P (sym (get_or_from_slice_get xs k (f (coset_point ring root coset k)) d (listed.at_row k below))) (each k below)

  pub first_values : (n k : ℕ) (f : K → K) (xs : List K) → k ≤ n → AreValuesOn ring root coset n f xs → AreValuesOn ring root coset k f (take k xs)
  first_values n k f xs within listed = record {
    number = length-take-le k xs (omega (arith, listed.number));
    at_row = λ i h. slice_get-take xs k i h ∙ listed.at_row i (omega arith);
  }

-- the points of a coset, twice as many: the others are those times the power that comes next
module _ {K : Type 0} {ring : RingOps K} (laws : RingLaws ring) (root : ℕ → K) (coset : TwoAdicCoset K) where
  point_further : (n i : ℕ) → ring.mul (power ring (root coset.log_size) n) (coset_point ring root coset i) ≡ coset_point ring root coset (n + i)
  point_further n i =
      let w = root coset.log_size in
      solve laws (power ring w n ∷ coset.shift ∷ power ring w i ∷ []) (v0 ⊗ (v1 ⊗ v2)) (v1 ⊗ (v0 ⊗ v2)) refl ∙ ap (ring.mul coset.shift) (sym (power-add laws w n i))

  pub one_point : (all : List K) → all ≡ coset.shift ∷ [] → AreValuesOn ring root coset (2 ^ 0) (λ x. x) all
  one_point all e = record {
    number = ap length e;
    at_row = λ i h.
        let none : i ≡ 0 = omega (arith, h) in
        ap (λ l. slice_get l i) e ∙ ap (slice_get (coset.shift ∷ [])) none ∙ ap Some (sym (laws.mul_one coset.shift) ∙ ap (ring.mul coset.shift) (sym (power-zero laws (root coset.log_size)) ∙ ap (power ring (root coset.log_size)) (sym none)));
  }

  pub first_step : root coset.log_size ≡ power ring (root coset.log_size) (2 ^ 0)
  unfolding power
  first_step = sym (laws.mul_one (root coset.log_size))

  pub next_step : (k : ℕ) (step : K) → step ≡ power ring (root coset.log_size) (2 ^ k) → ring.mul step step ≡ power ring (root coset.log_size) (2 ^ (k + 1))
  next_step k step e = ap (λ s. ring.mul s s) e ∙ sym (power-add laws (root coset.log_size) (2 ^ k) (2 ^ k)) ∙ ap (power ring (root coset.log_size)) (omega (arith, pow-add 2 k 1))

  pub points_doubled : (k : ℕ) (step : K) (points all : List K) → step ≡ power ring (root coset.log_size) (2 ^ k) → AreValuesOn ring root coset (2 ^ k) (λ x. x) points → all ≡ points ++ map (ring.mul step) points
      → AreValuesOn ring root coset (2 ^ (k + 1)) (λ x. x) all
  points_doubled k step points all is listed e =
      let twice : 2 ^ (k + 1) ≡ 2 ^ k + 2 ^ k = omega (arith, pow-add 2 k 1) in
      record {
        number = omega (arith, ap length e, length-append points (map (ring.mul step) points), length-map points (ring.mul step), listed.number, twice);
        at_row = λ i h. ap (λ l. slice_get l i) e ∙ elim (cases_lt i (2 ^ k)) [
          | inl below ↦ slice_get-append_left points (map (ring.mul step) points) i (omega (arith, below, listed.number)) ∙ listed.at_row i below
          | inr past ↦
              let j = i - 2 ^ k in
              let place : 2 ^ k + j ≡ i = omega (arith, past) in
              slice_get-append_right points (map (ring.mul step) points) (2 ^ k) i listed.number past ∙ slice_get-map (ring.mul step) points j ∙ ap (option_map (ring.mul step)) (listed.at_row j (omega (arith, h, past, twice)))
              ∙ ap Some (ap (λ s. ring.mul s (coset_point ring root coset j)) is ∙ point_further (2 ^ k) j ∙ ap (coset_point ring root coset) place)
        ];
      }

-- x^n - 1, with n a power of two, on the points of a coset: it repeats after as many points as the coset has for each of the group's
module _ {K : Type 0} {ring : RingOps K} (laws : RingLaws ring) (root : ℕ → K) (coset : TwoAdicCoset K) (order : power ring (root coset.log_size) (2 ^ coset.log_size) ≡ ring.one) (k : ℕ) where
  reaches : power ring (root coset.log_size) (2 ^ (coset.log_size - k) * 2 ^ k) ≡ ring.one
  reaches =
      let w = root coset.log_size in
      let n = coset.log_size in
      let sum : (n - k) + k ≡ n + (k - n) = omega arith in
      ap (power ring w) (sym (pow-add 2 (n - k) k) ∙ ap (λ e. 2 ^ e) sum ∙ pow-add 2 n (k - n)) ∙ sym (power-power laws w (2 ^ n) (2 ^ (k - n))) ∙ ap (λ y. power ring y (2 ^ (k - n))) order ∙ power-one laws (2 ^ (k - n))

  whole_turns : (q : ℕ) → power ring (power ring (root coset.log_size) (2 ^ (coset.log_size - k) * q)) (2 ^ k) ≡ ring.one
  whole_turns q =
      let w = root coset.log_size in
      let p = 2 ^ (coset.log_size - k) in
      let turned : p * q * 2 ^ k ≡ p * 2 ^ k * q = omega arith in
      power-power laws w (p * q) (2 ^ k) ∙ ap (power ring w) turned ∙ sym (power-power laws w (p * 2 ^ k) q) ∙ ap (λ y. power ring y q) reaches ∙ power-one laws q

  pub vanishing_repeats : (i : ℕ) → subgroup_vanishing ring (2 ^ k) (coset_point ring root coset (i % 2 ^ (coset.log_size - k))) ≡ subgroup_vanishing ring (2 ^ k) (coset_point ring root coset i)
  vanishing_repeats i =
      let w = root coset.log_size in
      let s = coset.shift in
      let p = 2 ^ (coset.log_size - k) in
      let n = 2 ^ k in
      ap (λ y. difference ring y ring.one)
      (power-mul laws s (power ring w (i % p)) n ∙
      ap (ring.mul (power ring s n)) (sym (laws.mul_one _) ∙ ap (ring.mul (power ring (power ring w (i % p)) n)) (sym (whole_turns (i / p))) ∙ sym (power-mul laws (power ring w (i % p)) (power ring w (p * (i / p))) n) ∙
      ap (λ y. power ring y n) (sym (power-add laws w (i % p) (p * (i / p))) ∙ ap (power ring w) (mod-add-div i p))) ∙
      sym (power-mul laws s (power ring w i) n))

  pub first_vanishing : (points values : List K) (p : ℕ) → AreValuesOn ring root coset (2 ^ coset.log_size) (λ x. x) points → p ≡ 2 ^ (coset.log_size - k) → values ≡ map (λ x. subgroup_vanishing ring (2 ^ k) x) (take p points)
      → AreValuesOn ring root coset (2 ^ (coset.log_size - k)) (λ x. subgroup_vanishing ring (2 ^ k) x) values
  first_vanishing points values p at is e =
      mapped_values ring root coset (2 ^ (coset.log_size - k)) (λ x. x) (λ x. subgroup_vanishing ring (2 ^ k) x) (take p points) values
      (subst (λ m. AreValuesOn ring root coset (2 ^ (coset.log_size - k)) (λ x. x) (take m points)) (sym is)
      (first_values ring root coset (2 ^ coset.log_size) (2 ^ (coset.log_size - k)) (λ x. x) points (two_power_at_most (coset.log_size - k) coset.log_size (omega arith)) at)) e

  module _ (points values : List K) (at : AreValuesOn ring root coset (2 ^ coset.log_size) (λ x. x) points) (listed : AreValuesOn ring root coset (2 ^ (coset.log_size - k)) (λ x. subgroup_vanishing ring (2 ^ k) x) values) where
    some_points : 0 < 2 ^ (coset.log_size - k)
    some_points = omega (arith, two_power_at_most 0 (coset.log_size - k) (omega arith))

    pub some_values : 0 < length values
    some_values = omega (arith, listed.number, some_points)

    pub vanishing_everywhere : RepeatOn ring root coset (λ x. subgroup_vanishing ring (2 ^ k) x) values
    vanishing_everywhere = record {
      some = some_values;
      at_row = λ i. ap (λ m. slice_get values (i % m)) listed.number ∙ listed.at_row (i % 2 ^ (coset.log_size - k)) (mod-lt i some_points) ∙ ap Some (vanishing_repeats i);
    }

    module _ (inverse : K → K) (inverses : List K) (e : inverses ≡ map inverse values) where
      inverses_listed : AreValuesOn ring root coset (2 ^ (coset.log_size - k)) (λ x. inverse (subgroup_vanishing ring (2 ^ k) x)) inverses
      inverses_listed = mapped_values ring root coset (2 ^ (coset.log_size - k)) (λ x. subgroup_vanishing ring (2 ^ k) x) inverse values inverses listed e

      pub some_inverses : 0 < length inverses
      some_inverses = omega (arith, inverses_listed.number, some_points)

      pub inverses_everywhere : (all : List K) → AreRepeated inverses (length points) all → AreValuesOn ring root coset (2 ^ coset.log_size) (λ x. inverse (subgroup_vanishing ring (2 ^ k) x)) all
      inverses_everywhere all again =
          all_values ring root coset (λ x. inverse (subgroup_vanishing ring (2 ^ k) x)) (length points) (2 ^ coset.log_size) all at.number
          (repeated_values ring root coset (length points) (2 ^ (coset.log_size - k)) (λ x. inverse (subgroup_vanishing ring (2 ^ k) x)) inverses all some_points (λ i. ap inverse (vanishing_repeats i)) inverses_listed again)

-- The selectors of a group on a coset outside it, from its vanishing values there.
module _ {K : Type 0} {ring : RingOps K} {inverse : K → K} (laws : FieldLaws ring inverse) (root : ℕ → K) (group : Subgroup K) (is_group : IsSubgroup ring inverse group) (coset : TwoAdicCoset K)
    (outside : (i : ℕ) → subgroup_vanishing ring group.size (coset_point ring root coset i) ≢ ring.zero) (n : ℕ) (points : List K) (at : AreValuesOn ring root coset n (λ x. x) points) where
  pub less_listed : (c : K) (ds : List K) → ds ≡ map (λ x. difference ring x c) points → AreValuesOn ring root coset n (λ x. difference ring x c) ds
  less_listed c ds e = mapped_values ring root coset n (λ x. x) (λ x. difference ring x c) points ds at e

  pub none_is_first : (c : K) (ds : List K) → c ≡ ring.one → ds ≡ map (λ x. difference ring x c) points → All (λ d. d ≢ ring.zero) ds
  none_is_first c ds is e = all_are ring root coset n (λ x. difference ring x c) (λ d. d ≢ ring.zero) ds
      (λ i h. subst (λ y. difference ring (coset_point ring root coset i) y ≢ ring.zero) (sym is) (not_first_point laws group is_group (coset_point ring root coset i) (outside i))) (less_listed c ds e)

  pub transitions : (c : K) (ds : List K) → c ≡ group.generator_inverse → ds ≡ map (λ x. difference ring x c) points → AreValuesOn ring root coset n (transition_selector ring (λ k. k) group) ds
  transitions c ds is e = same_values ring root coset n (λ x. difference ring x c) (transition_selector ring (λ k. k) group) ds (λ i h. ap (difference ring (coset_point ring root coset i)) is) (less_listed c ds e)

  module _ (vanishing : List K) (values : RepeatOn ring root coset (λ x. subgroup_vanishing ring group.size x) vanishing) (c : K) (ds over : List K) (e : ds ≡ map (λ x. difference ring x c) points)
      (quotients : AreQuotients ring inverse vanishing ds (length ds) over) where
    pub first_rows : c ≡ ring.one → AreValuesOn ring root coset n (first_row_selector ring (λ k. k) group) over
    first_rows is =
        same_values ring root coset n (λ x. ring.mul (subgroup_vanishing ring group.size x) (inverse (difference ring x c))) (first_row_selector ring (λ k. k) group) over
        (λ i h. ap (λ y. ring.mul (subgroup_vanishing ring group.size (coset_point ring root coset i)) (inverse (difference ring (coset_point ring root coset i) y))) is ∙ first_is_quotient laws group is_group (coset_point ring root coset i) (outside i))
        (quotient_values ring root coset inverse n (λ x. subgroup_vanishing ring group.size x) (λ x. difference ring x c) vanishing ds over values (less_listed c ds e) quotients)

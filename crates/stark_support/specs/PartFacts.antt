-- The parts of a coset, listed in order.
use Rattle.std.specs.Prelude.{◌≡◌, ℕ, ◌+◌, ◌-◌, ◌*◌, ◌^◌, ◌<◌, ◌≤◌, List, [], ◌∷◌, ◌++◌, length, Some, refl, map}
use Rattle.std.specs.List.{slice_get}
use Rattle.std.proofs.Common.{sym, ◌∙◌, ap, subst, arith, get_or, add-one, pow-add}
use Rattle.std.proofs.lemmas.Option.{get_or_from_slice_get}
use Rattle.std.proofs.lemmas.List.{map-append}
use Rattle.stark_support.specs.ListFacts.{one_more_number, one_more_listed}
use Rattle.stark_support.specs.Ring.{RingOps, FieldLaws}
use Rattle.stark_support.specs.FieldFacts.{cancel_left}
use Rattle.stark_support.specs.Powers.{power}
use Rattle.stark_support.specs.PowerFacts.{power-mul, power-power, power-one}
use Rattle.stark_support.specs.TwoAdic.{TwoAdicLaws}
use Rattle.stark_support.specs.LogarithmFacts.{two_power_at_most}
use Rattle.stark_support.specs.Coset.{TwoAdicCoset, IsTwoAdicCoset, AreDisjoint, AreParts, coset_point, coset_part}
use Rattle.stark_support.specs.CosetFacts.{power_nonzero, powers_differ, root_has_order, row_in_part}

-- The first `count` parts.
pub record ArePartsSoFar {K : Type 0} (ring : RingOps K) (root : ℕ → K) (coset : TwoAdicCoset K) (log_parts : ℕ) (count : ℕ) (parts : List (TwoAdicCoset K)) : Type 0 where
  pub number : length parts ≡ count
  pub part : (i : ℕ) → i < count → slice_get parts i ≡ Some (coset_part ring root coset log_parts i)

times_below : (i j n : ℕ) → 0 < n → i < j → i * n < j * n
times_below i j n h p = grind arith

module _ {K : Type 0} {ring : RingOps K} {inverse : K → K} (laws : FieldLaws ring inverse) (root : ℕ → K) (coset : TwoAdicCoset K) (log_parts : ℕ) where
  pub no_parts : (parts : List (TwoAdicCoset K)) → parts ≡ [] → ArePartsSoFar ring root coset log_parts 0 parts
  no_parts parts e = record { number = ap length e; part = λ i h. absurd (omega arith) }

  pub first_shift : coset.shift ≡ coset_point ring root coset 0
  unfolding power
  first_shift = sym (laws.of_ring.mul_one coset.shift)

  pub next_shift : (n : ℕ) (shift : K) → shift ≡ coset_point ring root coset n → ring.mul shift (root coset.log_size) ≡ coset_point ring root coset (n + 1)
  unfolding power
  next_shift n shift e =
      ap (λ t. ring.mul t (root coset.log_size)) e ∙ laws.of_ring.mul_assoc coset.shift (power ring (root coset.log_size) n) (root coset.log_size) ∙
      ap (ring.mul coset.shift) (laws.of_ring.mul_comm _ (root coset.log_size) ∙ ap (λ m. power ring (root coset.log_size) m) (sym (add-one n)))

  pub one_more : (n : ℕ) (before after : List (TwoAdicCoset K)) → ArePartsSoFar ring root coset log_parts n before
      → after ≡ before ++ coset_part ring root coset log_parts n ∷ [] → ArePartsSoFar ring root coset log_parts (n + 1) after
  one_more n before after listed e =
      let new = coset_part ring root coset log_parts n in
      record {
        number = one_more_number before after new n listed.number e;
        part = one_more_listed (λ i. Some (coset_part ring root coset log_parts i)) before after new n listed.number listed.part refl e;
      }

  -- one more of values that are seen as cosets
  pub one_more_seen : {D : Type 0} (view : D → TwoAdicCoset K) (n : ℕ) (before after : List D) (new : D) → ArePartsSoFar ring root coset log_parts n (map view before)
      → after ≡ before ++ new ∷ [] → (view new).shift ≡ coset_point ring root coset n → (view new).log_size ≡ coset.log_size - log_parts
      → ArePartsSoFar ring root coset log_parts (n + 1) (map view after)
  one_more_seen view n before after new listed e shift size =
      one_more n (map view before) (map view after) listed
      (ap (map view) e ∙ map-append view before (new ∷ []) ∙
      ap (λ (s : K). map view before ++ record { shift = s; log_size = (view new).log_size } ∷ []) shift ∙
      ap (λ (k : ℕ). map view before ++ record { shift = coset_point ring root coset n; log_size = k } ∷ []) size)

  module _ (adicity : ℕ) (generator : K) (two_adic : TwoAdicLaws ring adicity root generator) (valid : IsTwoAdicCoset ring adicity coset) (fits : log_parts ≤ coset.log_size) where
    -- a part's points have the power of its size that its shift has
    size_power : (i a : ℕ) → let n = 2 ^ (coset.log_size - log_parts) in
        power ring (coset_point ring root (coset_part ring root coset log_parts i) a) n ≡ ring.mul (power ring coset.shift n) (power ring (root coset.log_size) (i * n))
    size_power i a =
        let small = coset.log_size - log_parts in
        let n = 2 ^ small in
        let w = root small in
        let within : coset.log_size ≤ adicity = valid.within in
        let in_group : small ≤ adicity = omega arith in
        power-mul laws.of_ring (coset_point ring root coset i) (power ring w a) n ∙
        ap (ring.mul (power ring (coset_point ring root coset i) n))
        (power-power laws.of_ring w a n ∙ ap (power ring w) (omega arith) ∙ sym (power-power laws.of_ring w n a) ∙
        ap (λ t. power ring t a) (root_has_order laws adicity root generator two_adic small in_group).reaches ∙ power-one laws.of_ring a) ∙
        laws.of_ring.mul_one _ ∙ power-mul laws.of_ring coset.shift (power ring (root coset.log_size) i) n ∙
        ap (ring.mul (power ring coset.shift n)) (power-power laws.of_ring (root coset.log_size) i n)

    pub parts_apart : (i j : ℕ) → i < j → j < 2 ^ log_parts → AreDisjoint ring root (coset_part ring root coset log_parts i) (coset_part ring root coset log_parts j)
    parts_apart i j h p = record {
      apart = λ a b e.
          let small = coset.log_size - log_parts in
          let n = 2 ^ small in
          let positive : 0 < n = omega (arith, two_power_at_most 0 small (omega arith)) in
          let whole : 2 ^ coset.log_size ≡ 2 ^ log_parts * n = let sum : coset.log_size ≡ log_parts + small = omega arith in ap (λ m. 2 ^ m) sum ∙ pow-add 2 log_parts small in
          let below : j * n < 2 ^ coset.log_size = let times = times_below j (2 ^ log_parts) n positive p in omega (arith, whole) in
          powers_differ laws adicity root generator two_adic coset.log_size (i * n) (j * n) valid.within (times_below i j n positive h) below
          (cancel_left laws (power ring coset.shift n) _ _ (power_nonzero laws adicity root generator two_adic coset.shift valid.shift_nonzero n)
          (sym (size_power i a) ∙ ap (λ t. power ring t n) e ∙ size_power j b));
    }

    pub all_parts : (count : ℕ) (parts : List (TwoAdicCoset K)) → count ≡ 2 ^ log_parts → ArePartsSoFar ring root coset log_parts count parts → AreParts ring root coset log_parts parts
    all_parts count parts ended listed =
        let read : (i : ℕ) (d : TwoAdicCoset K) → i < length parts → get_or parts i d ≡ coset_part ring root coset log_parts i
        = λ i d h. get_or_from_slice_get parts i _ d (listed.part i (omega (arith, listed.number))) in
        record {
          number = listed.number ∙ ended;
          part = λ i h. listed.part i (omega (arith, ended));
          disjoint = record {
            one_subgroup = λ i d h. ap (λ c. c.log_size) (read i d h);
            disjoint = λ i j d h p. subst (λ c. AreDisjoint ring root c (get_or parts j d)) (sym (read i d (omega arith)))
                (subst (λ c. AreDisjoint ring root (coset_part ring root coset log_parts i) c) (sym (read j d p)) (parts_apart i j h (omega (arith, listed.number, ended))));
          };
          row = λ r. row_in_part laws adicity root generator two_adic coset valid log_parts r fits;
        }

-- The parts of a coset in order, and their points as those of the coset.
use Rattle.std.proofs.Common.{◌≡◌, ◌∙◌, ap, arith, refl, ℕ, ◌+◌, ◌-◌, ◌*◌, ◌/◌, ◌%◌, ◌^◌, ◌<◌, ◌≤◌, map, length, Some}
use Rattle.std.specs.List.{range_with_len}
use Rattle.std.proofs.lemmas.List.FromFn.{length-map-range_with_len, get_or-map-range_with_len}
use Rattle.std.proofs.lemmas.Nat.{mod-mul-add, div-mul-add, mul-add-lt, pow-add}
use Rattle.std.proofs.lemmas.Option.{slice_get-get_or}
use Rattle.stark_support.specs.Ring.{RingOps, FieldLaws}
use Rattle.stark_support.specs.TwoAdic.{TwoAdicLaws}
use Rattle.stark_support.specs.Coset.{TwoAdicCoset, IsTwoAdicCoset, AreParts, coset_part, coset_point}
use Rattle.stark_support.specs.CosetFacts.{point_nonzero, row_in_part}
use Rattle.stark_support.specs.PartFacts.{all_parts}

turned : (i r w : ℕ) → i + r * w ≡ r * w + i
turned i r w = omega arith

-- Place r of part i is a place of the whole.
pub place_within : (i r parts n whole : ℕ) → i < parts → r < n → whole ≡ parts * n → i + r * parts < whole
place_within i r parts n whole below within is = let place = mul-add-lt r parts i n within below in omega (arith, place, is)

pub whole_size : (log_size log_parts : ℕ) → log_parts ≤ log_size → 2 ^ log_size ≡ 2 ^ log_parts * 2 ^ (log_size - log_parts)
whole_size log_size log_parts fits = let sum : log_size ≡ log_parts + (log_size - log_parts) = omega arith in ap (λ k. 2 ^ k) sum ∙ pow-add 2 log_parts (log_size - log_parts)

module _ {F : Type 0} {base : RingOps F} {inverse : F → F} (laws : FieldLaws base inverse) (adicity : ℕ) (root : ℕ → F) (generator : F) (two_adic : TwoAdicLaws base adicity root generator)
    (coset : TwoAdicCoset F) (valid : IsTwoAdicCoset base adicity coset) (log_parts : ℕ) (fits : log_parts ≤ coset.log_size) where
  -- Each part is a coset.
  pub part_valid : (i : ℕ) → IsTwoAdicCoset base adicity (coset_part base root coset log_parts i)
  part_valid i = record {
    shift_nonzero = point_nonzero laws adicity root generator two_adic coset valid i;
    within = let in_group : coset.log_size ≤ adicity = valid.within in omega arith;
  }

  -- The parts in order are the coset's.
  pub parts_in_order : AreParts base root coset log_parts (map (coset_part base root coset log_parts) (range_with_len 0 (2 ^ log_parts)))
  parts_in_order =
      let part = coset_part base root coset log_parts in
      let parts = map part (range_with_len 0 (2 ^ log_parts)) in
      let number : length parts ≡ 2 ^ log_parts = length-map-range_with_len part 0 (2 ^ log_parts) in
      all_parts laws root coset log_parts adicity generator two_adic valid fits (2 ^ log_parts) parts refl (record {
        number = number;
        part = λ i below.
            slice_get-get_or parts i coset (omega (arith, below, number))
            ∙ ap (λ c. Some c) (get_or-map-range_with_len part 0 (2 ^ log_parts) i i coset below (omega arith));
      })

  -- Point r of part i is point i + r * 2 ^ log_parts of the whole.
  pub point_of_part : (i r : ℕ) → i < 2 ^ log_parts → coset_point base root coset (i + r * 2 ^ log_parts) ≡ coset_point base root (coset_part base root coset log_parts i) r
  point_of_part i r below =
      let w = 2 ^ log_parts in
      row_in_part laws adicity root generator two_adic coset valid log_parts (i + r * w) fits ∙
      ap (λ k. coset_point base root (coset_part base root coset log_parts k) ((i + r * w) / w)) (ap (λ k. k % w) (turned i r w) ∙ mod-mul-add r w i below) ∙
      ap (coset_point base root (coset_part base root coset log_parts i)) (ap (λ k. k / w) (turned i r w) ∙ div-mul-add r w i below)

-- A coset's points times the generator of a subgroup are points of the coset again: values on them, turned round.
use Rattle.std.proofs.Common.{◌≡◌, ◌∙◌, ℕ, ◌+◌, ◌*◌, ◌-◌, ◌/◌, ◌%◌, ◌^◌, ◌<◌, ◌≤◌, List, Some, length, get_or, ap, refl, subst, sym, arith, [], ◌∷◌}
use Rattle.std.proofs.lemmas.Option.{get_or_from_slice_get}
use Rattle.std.proofs.Math.Nat.{add-div_right, add-mod_right, mod-lt, mod-add-div}
use Rattle.stark_support.specs.Coset.{TwoAdicCoset, IsTwoAdicCoset, AreValuesOn, coset_part, coset_point}
use Rattle.stark_support.specs.CosetFacts.{root_has_order, row_in_part}
use Rattle.stark_support.specs.LogarithmFacts.{two_power_at_most}
use Rattle.stark_support.specs.Selectors.{first_row_selector, last_row_selector}
use Rattle.stark_support.specs.Subgroup.{group_of}
use Rattle.stark_support.specs.Powers.{power}
use Rattle.stark_support.specs.PowerFacts.{power-add, power-one, power-power}
use Rattle.stark_support.specs.Ring.{RingOps, FieldLaws}
use Rattle.stark_support.specs.RingSolver.{solve, ◌⊗◌, v0, v1, v2}
use Rattle.stark_support.specs.TwoAdic.{TwoAdicLaws}
use Rattle.stark_bench.specs.PointLists.{AreTurned}

module _ {K : Type 0} {ring : RingOps K} {inverse : K → K} (laws : FieldLaws ring inverse) (adicity : ℕ) (root : ℕ → K) (generator : K) (two_adic : TwoAdicLaws ring adicity root generator)
    (coset : TwoAdicCoset K) (valid : IsTwoAdicCoset ring adicity coset) where
  power_single : (x : K) → power ring x 1 ≡ x
  unfolding power
  power_single x = laws.of_ring.mul_one x

  point_round : (order : power ring (root coset.log_size) (2 ^ coset.log_size) ≡ ring.one) (n : ℕ) → coset_point ring root coset (n % 2 ^ coset.log_size) ≡ coset_point ring root coset n
  point_round order n =
      let w = root coset.log_size in
      let m = 2 ^ coset.log_size in
      ap (ring.mul coset.shift)
      (sym (laws.of_ring.mul_one _)
      ∙ ap (ring.mul (power ring w (n % m))) (sym (sym (power-power laws.of_ring w m (n / m)) ∙ ap (λ y. power ring y (n / m)) order ∙ power-one laws.of_ring (n / m)))
      ∙ sym (power-add laws.of_ring w (n % m) (m * (n / m))) ∙ ap (power ring w) (mod-add-div n m))

  -- 2^p places further on lies the point times the generator of 2^(log_size - p) elements
  point_turned : (p i : ℕ) → p ≤ coset.log_size → 0 < 2 ^ p → coset_point ring root coset (i + 2 ^ p) ≡ ring.mul (root (coset.log_size - p)) (coset_point ring root coset i)
  point_turned p i h some =
      let k = coset.log_size - p in
      let a = add-mod_right i (2 ^ p) in
      let b = add-div_right i some in
      let part = coset_part ring root coset p (i % 2 ^ p) in
      row_in_part laws adicity root generator two_adic coset valid p (i + 2 ^ p) h
      ∙ (λ t. coset_point ring root (coset_part ring root coset p (a t)) (b t))
      ∙ ap (ring.mul part.shift) (power-add laws.of_ring (root k) (i / 2 ^ p) 1 ∙ ap (ring.mul (power ring (root k) (i / 2 ^ p))) (power_single (root k)))
      ∙ solve laws.of_ring (part.shift ∷ power ring (root k) (i / 2 ^ p) ∷ root k ∷ []) (v0 ⊗ (v1 ⊗ v2)) (v2 ⊗ (v0 ⊗ v1)) refl
      ∙ ap (ring.mul (root k)) (sym (row_in_part laws adicity root generator two_adic coset valid p i h))

  module _ (p : ℕ) (h : p ≤ coset.log_size) (some : 0 < 2 ^ p) (points : 0 < 2 ^ coset.log_size) (order : power ring (root coset.log_size) (2 ^ coset.log_size) ≡ ring.one) (f : K → K) (xs all : List K) where
    -- the values at the points times the generator, each times it
    pub turned_values : AreValuesOn ring root coset (2 ^ coset.log_size) f xs → AreTurned ring (root (coset.log_size - p)) xs (2 ^ p) (length xs) all
        → AreValuesOn ring root coset (2 ^ coset.log_size) (λ x. ring.mul (root (coset.log_size - p)) (f (ring.mul (root (coset.log_size - p)) x))) all
    turned_values listed turned = record {
      number = turned.number ∙ listed.number;
      at_row = λ i within.
          let g = root (coset.log_size - p) in
          let m = 2 ^ coset.log_size in
          let place = (i + 2 ^ p) % m in
          let there = get_or_from_slice_get xs place (f (coset_point ring root coset place)) ring.zero (listed.at_row place (mod-lt (i + 2 ^ p) points)) in
          turned.at_place i (omega (arith, within, listed.number))
          ∙ ap (λ l. Some (ring.mul g (get_or xs ((i + 2 ^ p) % l) ring.zero))) listed.number
          ∙ ap (λ y. Some (ring.mul g y)) (there ∙ ap f (point_round order (i + 2 ^ p) ∙ point_turned p i h some));
    }

  -- the last row selector from the first one, where the coset is as large as the subgroup of 2^k elements
  pub last_rows_turned : (k : ℕ) → k ≤ coset.log_size → (factor : K) → factor ≡ root k → (further : ℕ) → further ≡ 2 ^ (coset.log_size - k) → (xs all : List K)
      → AreValuesOn ring root coset (2 ^ coset.log_size) (first_row_selector ring (λ c. c) (group_of inverse (root k) k)) xs → AreTurned ring factor xs further (length xs) all
      → AreValuesOn ring root coset (2 ^ coset.log_size) (last_row_selector ring (λ c. c) (group_of inverse (root k) k)) all
  last_rows_turned k h factor is_root further is_step xs all listed turned =
      let p = coset.log_size - k in
      let back : coset.log_size - p ≡ k = omega arith in
      let order = (root_has_order laws adicity root generator two_adic coset.log_size valid.within).reaches in
      let some : 0 < 2 ^ p = omega (arith, two_power_at_most 0 p (omega arith)) in
      let points : 0 < 2 ^ coset.log_size = omega (arith, two_power_at_most 0 coset.log_size (omega arith)) in
      let selector = first_row_selector ring (λ c. c) (group_of inverse (root k) k) in
      subst (λ j. AreValuesOn ring root coset (2 ^ coset.log_size) (λ x. ring.mul (root j) (selector (ring.mul (root j) x))) all) back
      (turned_values p (omega arith) some points order selector xs all listed
      (subst (λ f. AreTurned ring f xs (2 ^ p) (length xs) all) (is_root ∙ ap root (sym back)) (subst (λ m. AreTurned ring factor xs m (length xs) all) is_step turned)))

-- The roots of one whose order is a power of two are different, and they are all; cosets of their groups.
use Rattle.std.specs.Prelude.{◌≡◌, ◌≢◌, ◌⊎◌, ℕ, zero, suc, ◌+◌, ◌-◌, ◌*◌, ◌^◌, ◌<◌, ◌≤◌, ◌/◌, ◌%◌, [], refl}
use Rattle.std.proofs.Common.{sym, ◌∙◌, ap, inl, inr, arith, zero-add}
use Rattle.std.proofs.Math.Nat.{pow-suc, mod-add-div}
use Rattle.stark_support.specs.Ring.{RingOps, FieldLaws}
use Rattle.stark_support.specs.RingFacts.{mul_neg, neg_neg, same_if_no_difference}
use Rattle.stark_support.specs.RingSolver.{solve, unit, opposite_of, ◌⊗◌}
use Rattle.stark_support.specs.FieldFacts.{nonzero_product, cancel_left, divide_times, square_one}
use Rattle.stark_support.specs.Powers.{power, squarings}
use Rattle.stark_support.specs.PowerFacts.{suc-add, power-add, power-one, power-two, power-power, squarings_product, squarings_one, squarings_zero, squarings_power, squarings_is_power}
use Rattle.stark_support.specs.TwoAdic.{TwoAdicLaws, HasOrder}
use Rattle.stark_support.specs.PointFacts.{powers_of_order_differ}
use Rattle.stark_support.specs.Coset.{TwoAdicCoset, IsTwoAdicCoset, AreDisjoint, coset_point, coset_part, coset_size, coset_vanishing}

one_of : (k : ℕ) → 2 ^ suc k ≡ 2 * 2 ^ k
one_of k = omega (arith, pow-suc 2 k)

cases_two : (n : ℕ) → ((m : ℕ) × (n ≡ 2 * m)) ⊎ ((m : ℕ) × (n ≡ suc (2 * m)))
cases_two zero = inl (0, refl)
cases_two (suc n) = elim (cases_two n) [
  | inl w ↦ inr (w.0, ap suc w.1)
  | inr w ↦ inl (suc w.0, let e : n ≡ suc (2 * w.0) = w.1 in omega arith)
]

module _ {K : Type 0} {ring : RingOps K} {inverse : K → K} (laws : FieldLaws ring inverse) (adicity : ℕ) (root : ℕ → K) (generator : K) (two_adic : TwoAdicLaws ring adicity root generator) where
  -- even powers of a root are powers of the root of half the order
  pub even_power : (k j : ℕ) → k < adicity → power ring (root (suc k)) (2 * j) ≡ power ring (root k) j
  even_power k j h = sym (power-power laws.of_ring (root (suc k)) 2 j) ∙ ap (λ t. power ring t j) (power-two laws.of_ring (root (suc k)) ∙ two_adic.root_square k h)

  squarings_of_square : (x : K) (k : ℕ) → squarings ring x (suc k) ≡ squarings ring (ring.mul x x) k
  unfolding squarings
  squarings_of_square x k = sym (squarings_product laws.of_ring x x k)

  -- squaring a root k times, of order 2^(k+1), gives -1
  pub halfway : (k : ℕ) → k < adicity → squarings ring (root (suc k)) k ≡ ring.neg ring.one
  unfolding squarings
  halfway zero h = two_adic.root_one
  halfway (suc k) h = squarings_of_square (root (suc (suc k))) k ∙ ap (λ t. squarings ring t k) (two_adic.root_square (suc k) h) ∙ halfway k (omega arith)

  pub minus_one_squared : ring.mul (ring.neg ring.one) (ring.neg ring.one) ≡ ring.one
  minus_one_squared = solve laws.of_ring [] (opposite_of unit ⊗ opposite_of unit) unit refl

  pub whole_order : (k : ℕ) → k ≤ adicity → squarings ring (root k) k ≡ ring.one
  unfolding squarings
  whole_order zero h = two_adic.root_zero
  whole_order (suc k) h = ap (λ t. ring.mul t t) (halfway k h) ∙ minus_one_squared

  pub root_nonzero : (k : ℕ) → k ≤ adicity → root k ≢ ring.zero
  root_nonzero k h e = laws.one_not_zero (sym (whole_order k h) ∙ ap (λ t. squarings ring t k) e ∙ squarings_zero laws.of_ring k)

  odd_minus_one : (j : ℕ) → power ring (ring.neg ring.one) (suc (2 * j)) ≡ ring.neg ring.one
  unfolding power
  odd_minus_one j = ap (ring.mul (ring.neg ring.one)) (sym (power-power laws.of_ring (ring.neg ring.one) 2 j) ∙ ap (λ t. power ring t j) (power-two laws.of_ring (ring.neg ring.one) ∙ minus_one_squared) ∙ power-one laws.of_ring j) ∙ laws.of_ring.mul_one _

  -- no power between gives one
  pub order_exact : (k i : ℕ) → k ≤ adicity → 0 < i → i < 2 ^ k → power ring (root k) i ≢ ring.one
  order_exact zero i h p q e = absurd (omega arith)
  order_exact (suc k) i h p q e = elim (cases_two i) [
    | inl w ↦
        let m : ℕ = w.0 in
        let s : i ≡ 2 * m = w.1 in
        order_exact k m (omega arith) (omega arith) (omega (arith, one_of k)) (sym (even_power k m h) ∙ ap (λ n. power ring (root (suc k)) n) (sym s) ∙ e)
    | inr w ↦
        let m : ℕ = w.0 in
        let s : i ≡ suc (2 * m) = w.1 in
        two_adic.odd (sym (squarings_one laws.of_ring k) ∙ ap (λ t. squarings ring t k) (sym e) ∙ squarings_power laws.of_ring (root (suc k)) i k
        ∙ ap (λ t. power ring t i) (halfway k h) ∙ ap (λ n. power ring (ring.neg ring.one) n) s ∙ odd_minus_one m)
  ]

  pub power_nonzero : (x : K) → x ≢ ring.zero → (n : ℕ) → power ring x n ≢ ring.zero
  unfolding power
  power_nonzero x h zero = laws.one_not_zero
  power_nonzero x h (suc n) = nonzero_product laws x (power ring x n) h (power_nonzero x h n)

  -- root k has order 2 ^ k
  pub root_has_order : (k : ℕ) → k ≤ adicity → HasOrder ring (root k) (2 ^ k)
  root_has_order k h = record {
    reaches = sym (squarings_is_power laws.of_ring (root k) k) ∙ whole_order k h;
    first = λ i positive below. order_exact k i h positive below;
  }

  pub powers_differ : (k i j : ℕ) → k ≤ adicity → i < j → j < 2 ^ k → power ring (root k) i ≢ power ring (root k) j
  powers_differ k i j h less below = powers_of_order_differ laws.of_ring (root k) (2 ^ k) i j (root_has_order k h) less below

  -- the points of a coset are pairwise different
  pub points_differ : (c : TwoAdicCoset K) → IsTwoAdicCoset ring adicity c → (i j : ℕ) → i < j → j < coset_size c → coset_point ring root c i ≢ coset_point ring root c j
  points_differ c valid i j p q e = powers_differ c.log_size i j valid.within p q (cancel_left laws c.shift _ _ valid.shift_nonzero e)

  pub point_nonzero : (c : TwoAdicCoset K) → IsTwoAdicCoset ring adicity c → (i : ℕ) → coset_point ring root c i ≢ ring.zero
  point_nonzero c valid i = nonzero_product laws c.shift (power ring (root c.log_size) i) valid.shift_nonzero (power_nonzero (root c.log_size) (root_nonzero c.log_size valid.within) i)

  cancel_minus : (x : K) → ring.mul x (ring.neg ring.one) ≡ ring.neg ring.one → x ≡ ring.one
  cancel_minus x e = sym (neg_neg laws.of_ring x) ∙ ap ring.neg (ap ring.neg (sym (laws.of_ring.mul_one x)) ∙ sym (mul_neg laws.of_ring x ring.one) ∙ e) ∙ neg_neg laws.of_ring ring.one

  -- each root of unity is a power of the root of its order
  pub unity_is_power : (k : ℕ) → k ≤ adicity → (y : K) → squarings ring y k ≡ ring.one → (i : ℕ) × (i < 2 ^ k) × (y ≡ power ring (root k) i)
  unfolding squarings power
  unity_is_power zero h y e = (0, omega arith, e)
  unity_is_power (suc k) h y e = elim (square_one laws (squarings ring y k) e) [
    | inl plus ↦
        let w = unity_is_power k (omega arith) y plus in
        let b : w.0 < 2 ^ k = w.1 in
        (2 * w.0, omega (arith, one_of k), w.2 ∙ sym (even_power k w.0 h))
    | inr minus ↦
        let r = root (suc k) in
        let z = ring.mul y (inverse r) in
        let whole : ring.mul z r ≡ y = divide_times laws y r (root_nonzero (suc k) h) in
        let w = unity_is_power k (omega arith) z (cancel_minus (squarings ring z k)
        (ap (ring.mul (squarings ring z k)) (sym (halfway k h)) ∙ sym (squarings_product laws.of_ring z r k) ∙ ap (λ t. squarings ring t k) whole ∙ minus)) in
        let b : w.0 < 2 ^ k = w.1 in
        (suc (2 * w.0), omega (arith, one_of k), sym whole ∙ ap (λ t. ring.mul t r) (w.2 ∙ sym (even_power k w.0 h)) ∙ laws.of_ring.mul_comm _ r)
  ]

  shift_away : (s p : K) → s ≢ ring.zero → ring.mul (ring.mul s p) (inverse s) ≡ p
  shift_away s p n = ap (λ t. ring.mul t (inverse s)) (laws.of_ring.mul_comm s p) ∙ laws.of_ring.mul_assoc p s (inverse s) ∙ ap (ring.mul p) (laws.mul_inverse s n) ∙ laws.of_ring.mul_one p

  -- the vanishing polynomial is zero exactly on the points
  pub zero_on_points : (c : TwoAdicCoset K) → IsTwoAdicCoset ring adicity c → (i : ℕ) → coset_vanishing ring (λ x. x) inverse (coset_size c) c.shift (coset_point ring root c i) ≡ ring.zero
  zero_on_points c valid i =
      let y = power ring (root c.log_size) i in
      ap (λ t. ring.add t (ring.neg ring.one))
      (ap (λ t. power ring t (coset_size c)) (shift_away c.shift y valid.shift_nonzero)
      ∙ sym (squarings_is_power laws.of_ring y c.log_size)
      ∙ squarings_power laws.of_ring (root c.log_size) i c.log_size ∙ ap (λ t. power ring t i) (whole_order c.log_size valid.within) ∙ power-one laws.of_ring i)
      ∙ laws.of_ring.add_neg ring.one

  pub only_on_points : (c : TwoAdicCoset K) → IsTwoAdicCoset ring adicity c → (x : K) → coset_vanishing ring (λ y. y) inverse (coset_size c) c.shift x ≡ ring.zero
      → (i : ℕ) × (i < coset_size c) × (x ≡ coset_point ring root c i)
  only_on_points c valid x e =
      let y = ring.mul x (inverse c.shift) in
      let w = unity_is_power c.log_size valid.within y (squarings_is_power laws.of_ring y c.log_size ∙ same_if_no_difference laws.of_ring (power ring y (coset_size c)) ring.one e) in
      (w.0, w.1, sym (divide_times laws x c.shift valid.shift_nonzero) ∙ ap (λ t. ring.mul t c.shift) w.2 ∙ laws.of_ring.mul_comm _ c.shift)

  pub squarings_more : (x : K) (k d : ℕ) → squarings ring x k ≡ ring.one → squarings ring x (d + k) ≡ ring.one
  unfolding squarings
  squarings_more x k zero e = ap (λ n. squarings ring x n) (zero-add k) ∙ e
  squarings_more x k (suc d) e = ap (λ n. squarings ring x n) (suc-add d k) ∙ ap (λ t. ring.mul t t) (squarings_more x k d e) ∙ laws.of_ring.mul_one ring.one

  in_top_group : (k i : ℕ) → k ≤ adicity → squarings ring (power ring (root k) i) adicity ≡ ring.one
  in_top_group k i h =
      let d = adicity - k in
      let s : d + k ≡ adicity = omega arith in
      squarings_power laws.of_ring (root k) i adicity ∙ ap (λ t. power ring t i) (ap (λ n. squarings ring (root k) n) (sym s) ∙ squarings_more (root k) k d (whole_order k h)) ∙ power-one laws.of_ring i

  -- the coset shifted by the generator has no point in common with it
  pub shifted_is_disjoint : (c d : TwoAdicCoset K) → IsTwoAdicCoset ring adicity c → IsTwoAdicCoset ring adicity d → d.shift ≡ ring.mul c.shift generator → AreDisjoint ring root c d
  shifted_is_disjoint c d valid valid' shifted = record {
    apart = λ i j e.
        let u = power ring (root c.log_size) i in
        let v = power ring (root d.log_size) j in
        let same : u ≡ ring.mul generator v = cancel_left laws c.shift u (ring.mul generator v) valid.shift_nonzero
        (e ∙ ap (λ t. ring.mul t v) shifted ∙ laws.of_ring.mul_assoc c.shift generator v) in
        two_adic.outside (sym (laws.of_ring.mul_one _) ∙ ap (ring.mul (squarings ring generator adicity)) (sym (in_top_group d.log_size j valid'.within))
        ∙ sym (squarings_product laws.of_ring generator v adicity) ∙ ap (λ t. squarings ring t adicity) (sym same) ∙ in_top_group c.log_size i valid.within);
  }

  root_squarings : (c k : ℕ) → c + k ≤ adicity → squarings ring (root (c + k)) c ≡ root k
  unfolding squarings
  root_squarings zero k h = ap root (zero-add k)
  root_squarings (suc c) k h =
      ap (λ n. squarings ring (root n) (suc c)) (suc-add c k) ∙ squarings_of_square (root (suc (c + k))) c
      ∙ ap (λ t. squarings ring t c) (two_adic.root_square (c + k) (omega arith)) ∙ root_squarings c k (omega arith)

  -- root k to the 2^c is the root of order 2^(k - c)
  pub root_powers : (c k : ℕ) → c + k ≤ adicity → power ring (root (c + k)) (2 ^ c) ≡ root k
  root_powers c k h = sym (squarings_is_power laws.of_ring (root (c + k)) c) ∙ root_squarings c k h

  -- row r of the coset is point r / 2^p of its part r % 2^p, where there are 2^p parts
  pub row_in_part : (c : TwoAdicCoset K) → IsTwoAdicCoset ring adicity c → (p r : ℕ) → p ≤ c.log_size
      → coset_point ring root c r ≡ coset_point ring root (coset_part ring root c p (r % 2 ^ p)) (r / 2 ^ p)
  row_in_part c valid p r h =
      let k = c.log_size - p in
      let whole : p + k ≡ c.log_size = omega arith in
      let w = root c.log_size in
      let in_group : c.log_size ≤ adicity = valid.within in
      let split : r ≡ r % 2 ^ p + 2 ^ p * (r / 2 ^ p) = sym (mod-add-div r (2 ^ p)) in
      let small : power ring w (2 ^ p) ≡ root k = ap (λ n. power ring (root n) (2 ^ p)) (sym whole) ∙ root_powers p k (omega arith) in
      ap (ring.mul c.shift) (ap (λ n. power ring w n) split ∙ power-add laws.of_ring w (r % 2 ^ p) (2 ^ p * (r / 2 ^ p))
      ∙ ap (ring.mul (power ring w (r % 2 ^ p))) (sym (power-power laws.of_ring w (2 ^ p) (r / 2 ^ p)) ∙ ap (λ t. power ring t (r / 2 ^ p)) small))
      ∙ sym (laws.of_ring.mul_assoc c.shift (power ring w (r % 2 ^ p)) (power ring (root k) (r / 2 ^ p)))

  -- the generator is no power of a root
  pub generator_outside : (k i : ℕ) → k ≤ adicity → generator ≢ power ring (root k) i
  generator_outside k i h e = two_adic.outside (ap (λ t. squarings ring t adicity) e ∙ in_top_group k i h)

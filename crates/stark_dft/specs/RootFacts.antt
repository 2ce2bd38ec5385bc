-- The points between the passes, their squares and their inverses.
use Rattle.std.specs.Prelude.{◌≡◌, ◌≢◌, ℕ, zero, suc, ◌+◌, ◌-◌, ◌*◌, ◌/◌, ◌^◌, ◌<◌, ◌≤◌, List, [], ◌∷◌, ◌++◌, length, Some, refl}
use Rattle.std.proofs.Common.{sym, ap, ◌∙◌, arith, subst, add-one}
use Rattle.std.proofs.lemmas.Nat.{mul-add-lt, pow-add, pow_below}
use Rattle.std.proofs.lemmas.List.{get_or-map}
use Rattle.std.proofs.lemmas.Option.{slice_get-get_or}
use Rattle.std.proofs.Math.Nat.{mul-add, mul_comm, mul_assoc}
use Rattle.stark_support.specs.Ring.{RingOps, RingLaws, FieldLaws}
use Rattle.stark_support.specs.RingFacts.{one_mul, zero_add}
use Rattle.stark_support.specs.RingSolver.{solve, unit, opposite_of, ◌⊕◌, ◌⊖◌, ◌⊗◌, v0, v1, v2, v3}
use Rattle.stark_support.specs.TwoAdic.{TwoAdicLaws}
use Rattle.stark_support.specs.Powers.{power, squarings}
use Rattle.stark_support.specs.PowerFacts.{double, power-add, power-mul, power-one, squarings_is_power}
use Rattle.stark_support.specs.Coset.{coset_point}
use Rattle.stark_support.specs.CosetFacts.{halfway, power_nonzero}
use Rattle.stark_support.specs.Polynomial.{value, scaled}
use Rattle.stark_dft.specs.Passes.{entry, point_at}
use Rattle.stark_dft.specs.Strided.{strided, AreRowsOn}
use Rattle.stark_dft.specs.Halving.{AreRoots, AreValuesInBlocks, LeadsTo, level_point}
use Rattle.stark_dft.specs.HalvingFacts.{single}

-- ---- sizes

next_level : (k l : ℕ) → l < k → k - l ≡ suc (k - (l + 1))
next_level k l h = omega arith

pub half_power : (k l : ℕ) → l < k → 2 ^ (k - l) ≡ 2 ^ (k - (l + 1)) + 2 ^ (k - (l + 1))
half_power k l h = ap (λ n. 2 ^ n) (next_level k l h) ∙ sym (double (k - (l + 1)))

block_parts : (w k l block : ℕ) → l < k → block ≡ w * 2 ^ (k - l) → block ≡ w * 2 ^ (k - (l + 1)) + w * 2 ^ (k - (l + 1))
block_parts w k l block h is = is ∙ ap (λ n. w * n) (half_power k l h) ∙ mul-add w (2 ^ (k - (l + 1))) (2 ^ (k - (l + 1)))

pub half_block : (w k l block : ℕ) → l < k → block ≡ w * 2 ^ (k - l) → block / 2 ≡ w * 2 ^ (k - (l + 1))
half_block w k l block h is = let parts = block_parts w k l block h is in omega arith

pub two_halves : (w k l block : ℕ) → l < k → block ≡ w * 2 ^ (k - l) → block / 2 + block / 2 ≡ block
two_halves w k l block h is = let parts = block_parts w k l block h is in omega arith

pub twice_blocks : (l blocks : ℕ) → blocks ≡ 2 ^ l → blocks * 2 ≡ 2 ^ (l + 1)
twice_blocks l blocks is = let e : blocks * 2 ≡ 2 ^ l + 2 ^ l = omega arith in e ∙ double l ∙ ap (λ n. 2 ^ n) (sym (add-one l))

pub plus_itself : (n : ℕ) → n * 2 ≡ n + n
plus_itself n = omega arith

levels_of : (k l : ℕ) → l < k → suc (l + (k - (l + 1))) ≡ k
levels_of k l h = omega arith

pub all_blocks : (w k l half blocks : ℕ) → l < k → half ≡ w * 2 ^ (k - (l + 1)) → blocks ≡ 2 ^ l → blocks * half + blocks * half ≡ w * 2 ^ k
all_blocks w k l half blocks h half_is blocks_is =
    let m = k - (l + 1) in
    let one : blocks * half ≡ w * 2 ^ (l + m) =
    ap (λ n. n * half) blocks_is ∙ ap (λ n. 2 ^ l * n) half_is ∙ sym (mul_assoc (2 ^ l) w (2 ^ m)) ∙ ap (λ n. n * 2 ^ m) (mul_comm (2 ^ l) w) ∙ mul_assoc w (2 ^ l) (2 ^ m) ∙ ap (λ n. w * n) (sym (pow-add 2 l m)) in
    ap (λ n. n + n) one ∙ sym (mul-add w (2 ^ (l + m)) (2 ^ (l + m))) ∙ ap (λ n. w * n) (double (l + m) ∙ ap (λ n. 2 ^ n) (levels_of k l h))

pub power_fits : (l k adicity : ℕ) → l ≤ k → k ≤ adicity → adicity < 64 → 2 ^ l < 2 ^ 64
power_fits l k adicity a b c = pow_below l 64 (omega arith)

pub last_level : (k l : ℕ) → k ≤ l → l ≤ k → l ≡ k
last_level k l a b = omega arith

pub none_left : (k : ℕ) → k - k ≡ 0
none_left k = omega arith

-- ---- points

module _ {K : Type 0} {ring : RingOps K} (laws : RingLaws ring) where
  product_of_squares : (s p : K) → ring.mul (ring.mul s p) (ring.mul s p) ≡ ring.mul (ring.mul s s) (ring.mul p p)
  product_of_squares s p = solve laws (s ∷ p ∷ []) (v0 ⊗ v1 ⊗ (v0 ⊗ v1)) (v0 ⊗ v0 ⊗ (v1 ⊗ v1)) refl

  with_minus : (s p : K) → ring.mul s (ring.mul (ring.neg ring.one) p) ≡ ring.neg (ring.mul s p)
  with_minus s p = solve laws (s ∷ p ∷ []) (v0 ⊗ (opposite_of unit ⊗ v1)) (opposite_of (v0 ⊗ v1)) refl

  pub are_roots : (s t r u : K) (n : ℕ) → ring.mul s s ≡ t → ring.mul r r ≡ u → power ring r n ≡ ring.neg ring.one → AreRoots ring n (point_at ring t u) (point_at ring s r)
  are_roots s t r u n shifts roots half = record {
    squared = λ i. product_of_squares s (power ring r i) ∙ ap (λ x. ring.mul x (ring.mul (power ring r i) (power ring r i))) shifts
        ∙ ap (ring.mul t) (sym (power-mul laws r r i) ∙ ap (λ x. power ring x i) roots);
    opposite = λ i. ap (ring.mul s) (power-add laws r n i ∙ ap (λ x. ring.mul x (power ring r i)) half) ∙ with_minus s (power ring r i);
  }

  pub level_is_coset : (root : ℕ → K) (shift : K) (k i : ℕ) → level_point ring root shift k k i ≡ coset_point ring root (record { shift = shift; log_size = k }) i
  unfolding squarings
  level_is_coset root shift k i = ap (λ n. ring.mul (squarings ring shift n) (power ring (root k) i)) (none_left k)

  pub square_again : (x : K) (k l : ℕ) → l < k → ring.mul (squarings ring x (k - (l + 1))) (squarings ring x (k - (l + 1))) ≡ squarings ring x (k - l)
  unfolding squarings
  square_again x k l h = ap (squarings ring x) (sym (next_level k l h))

  paired : (s p t q : K) → ring.mul (ring.mul s p) (ring.mul t q) ≡ ring.mul (ring.mul s t) (ring.mul p q)
  paired s p t q = solve laws (s ∷ p ∷ t ∷ q ∷ []) (v0 ⊗ v1 ⊗ (v2 ⊗ v3)) (v0 ⊗ v2 ⊗ (v1 ⊗ v3)) refl

  zero_place : (i block q : ℕ) → i < 1 → i * block + q ≡ q
  zero_place i block q h =
      let e : i ≡ 0 = omega arith in
      let f : 0 * block + q ≡ q = omega arith in
      ap (λ n. n * block + q) e ∙ f

  -- Before the first pass each coefficient stands for itself.
  pub start_values : (xs ys : List K) (block blocks : ℕ) (points : ℕ → K) → blocks ≡ 1 → ((j : ℕ) → entry ring ys j ≡ entry ring xs j) → AreValuesInBlocks ring ring.one (entry ring xs) block blocks points ys
  start_values xs ys block blocks points one same =
      subst (λ n. AreValuesInBlocks ring ring.one (entry ring xs) block n points ys) (sym one) (record {
        value_at = λ i q a b. one_mul laws _ ∙ ap (entry ring ys) (zero_place i block q a) ∙ same q ∙ sym (single laws (entry ring xs) q block (points i));
      })

  -- A zero behind changes no entry.
  pub zero_behind : (xs : List K) (j : ℕ) → entry ring (xs ++ ring.zero ∷ []) j ≡ entry ring xs j
  zero_behind [] zero = refl
  zero_behind [] (suc j) = refl
  zero_behind (x ∷ xs) zero = refl
  zero_behind (x ∷ xs) (suc j) = zero_behind xs j

  row_place : (i width c height n : ℕ) → i < height → c < width → n ≡ width * height → i * width + c < n
  row_place i width c height n a b e = let fits = mul-add-lt i width c height a b in omega arith

  -- After the last pass the rows stand there.
  pub end_values : (root : ℕ → K) (shift : K) (k width : ℕ) (factor : K) (coefficients list : List K) → factor ≡ ring.one → length list ≡ width * 2 ^ k
      → AreValuesInBlocks ring factor (entry ring coefficients) width (2 ^ k) (level_point ring root shift k k) list → AreRowsOn ring root (record { shift = shift; log_size = k }) width coefficients list
  end_values root shift k width factor coefficients list one number h = record {
    number = number;
    value_at = λ i c a b.
        slice_get-get_or list (i * width + c) ring.zero (row_place i width c (2 ^ k) (length list) a b number)
        ∙ ap Some (sym (one_mul laws _) ∙ ap (λ f. ring.mul f (entry ring list (i * width + c))) (sym one) ∙ h.value_at i c a b
        ∙ ap (value ring (strided (entry ring coefficients) c width (2 ^ k))) (level_is_coset root shift k i));
  }

  scaled_entry : (scale : K) (xs : List K) (j : ℕ) → j < length xs → entry ring (scaled ring scale xs) j ≡ ring.mul scale (entry ring xs j)
  scaled_entry scale xs j h = get_or-map (ring.mul scale) xs j ring.zero ring.zero h

  -- Before the first pass back only the factor is missing.
  pub start_leads : (root : ℕ → K) (shift : K) (k level width blocks : ℕ) (scale power_ : K) (given source : List K) → level ≡ k → blocks ≡ 2 ^ k → power_ ≡ scale → length given ≡ width * 2 ^ k → source ≡ scaled ring scale given
      → LeadsTo ring width blocks (level_point ring root shift k level) source power_ width (2 ^ k) (level_point ring root shift k k) given
  start_leads root shift k level width blocks scale power_ given source at_top as_many same number scaled_ = record {
    leads = λ factor c after. record {
      value_at = λ i q a b.
          ap (λ s. ring.mul (ring.mul factor s) (entry ring given (i * width + q))) same ∙ laws.mul_assoc factor scale _
          ∙ ap (ring.mul factor) (sym (scaled_entry scale given (i * width + q) (row_place i width q (2 ^ k) (length given) a b number)) ∙ ap (λ l. entry ring l (i * width + q)) (sym scaled_))
          ∙ after.value_at i q (omega arith) b
          ∙ ap (λ n. value ring (strided c q width n) (level_point ring root shift k level i)) as_many
          ∙ ap (λ n. value ring (strided c q width (2 ^ k)) (level_point ring root shift k n i)) at_top;
    };
  }

  -- After the last pass back the coefficients stand there.
  pub end_leads : (root : ℕ → K) (shift : K) (k width block blocks : ℕ) (points : ℕ → K) (scale : K) (given source : List K) → blocks ≡ 1 → scale ≡ ring.one → length given ≡ width * 2 ^ k
      → LeadsTo ring block blocks points source scale width (2 ^ k) (level_point ring root shift k k) given → AreRowsOn ring root (record { shift = shift; log_size = k }) width source given
  end_leads root shift k width block blocks points scale given source one unscaled number h =
      end_values root shift k width (ring.mul ring.one scale) source given (one_mul laws scale ∙ unscaled) number (h.leads ring.one (entry ring source) (start_values source source block blocks points one (λ j. refl)))

module _ {K : Type 0} {ring : RingOps K} {inverse : K → K} (laws : FieldLaws ring inverse) where
  pub undone : (s r : K) → s ≢ ring.zero → r ≢ ring.zero → (i : ℕ) → ring.mul (point_at ring s r i) (point_at ring (inverse s) (inverse r) i) ≡ ring.one
  undone s r s_nonzero r_nonzero i =
      paired laws.of_ring s (power ring r i) (inverse s) (power ring (inverse r) i)
      ∙ ap (λ t. ring.mul t (ring.mul (power ring r i) (power ring (inverse r) i))) (laws.mul_inverse s s_nonzero)
      ∙ ap (ring.mul ring.one) (sym (power-mul laws.of_ring r (inverse r) i) ∙ ap (λ t. power ring t i) (laws.mul_inverse r r_nonzero) ∙ power-one laws.of_ring i)
      ∙ laws.of_ring.mul_one ring.one

  one_half : (h : K) → ring.add h h ≡ ring.mul (ring.add ring.one ring.one) h
  one_half h = solve laws.of_ring (h ∷ []) (v0 ⊕ v0) ((unit ⊕ unit) ⊗ v0) refl

  doubled_product : (h p : K) → ring.mul (ring.add h h) p ≡ ring.add (ring.mul h p) (ring.mul h p)
  doubled_product h p = solve laws.of_ring (h ∷ p ∷ []) ((v0 ⊕ v0) ⊗ v1) (v0 ⊗ v1 ⊕ v0 ⊗ v1) refl

  -- Twice a power of one half is the power before.
  pub doubled_power : (k l : ℕ) → ring.add ring.one ring.one ≢ ring.zero → l < k
      → power ring (inverse (ring.add ring.one ring.one)) (k - (l + 1)) ≡ ring.add (power ring (inverse (ring.add ring.one ring.one)) (k - l)) (power ring (inverse (ring.add ring.one ring.one)) (k - l))
  unfolding power
  doubled_power k l nonzero h =
      let half = inverse (ring.add ring.one ring.one) in
      let p = power ring half (k - (l + 1)) in
      sym (one_mul laws.of_ring p) ∙ ap (λ t. ring.mul t p) (sym (one_half half ∙ laws.mul_inverse (ring.add ring.one ring.one) nonzero)) ∙ doubled_product half p
      ∙ ap (λ n. ring.add (power ring half n) (power ring half n)) (sym (next_level k l h))

  other_one : ring.one ≡ ring.add (ring.add ring.one ring.one) (ring.neg ring.one)
  other_one = solve laws.of_ring [] unit (unit ⊕ unit ⊖ unit) refl

  module _ (adicity : ℕ) (root : ℕ → K) (generator : K) (two_adic : TwoAdicLaws ring adicity root generator) where
    pub two_nonzero : ring.add ring.one ring.one ≢ ring.zero
    two_nonzero e = two_adic.odd (other_one ∙ ap (λ t. ring.add t (ring.neg ring.one)) e ∙ zero_add laws.of_ring (ring.neg ring.one))

    pub squarings_nonzero : (x : K) (k : ℕ) → x ≢ ring.zero → squarings ring x k ≢ ring.zero
    squarings_nonzero x k h e = power_nonzero laws adicity root generator two_adic x h (2 ^ k) (sym (squarings_is_power laws.of_ring x k) ∙ e)

    pub roots_of_level : (shift : K) (k l : ℕ) → l < k → k ≤ adicity → AreRoots ring (2 ^ l) (level_point ring root shift k l) (level_point ring root shift k (l + 1))
    roots_of_level shift k l h within =
        are_roots laws.of_ring (squarings ring shift (k - (l + 1))) (squarings ring shift (k - l)) (root (l + 1)) (root l) (2 ^ l)
        (square_again laws.of_ring shift k l h)
        (ap (λ n. ring.mul (root n) (root n)) (add-one l) ∙ two_adic.root_square l (omega arith))
        (ap (λ n. power ring (root n) (2 ^ l)) (add-one l) ∙ sym (squarings_is_power laws.of_ring (root (suc l)) l) ∙ halfway laws adicity root generator two_adic l (omega arith))

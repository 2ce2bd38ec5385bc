-- The points of disjoint cosets are as many as the cosets' sizes add up to, and no two are the same.
use Rattle.std.specs.Prelude.{◌≡◌, ◌≢◌, ℕ, zero, suc, ◌+◌, ◌-◌, ◌*◌, ◌<◌, ◌≤◌, List, [], ◌∷◌, ◌++◌, map, length, refl}
use Rattle.std.proofs.Common.{sym, ap, ◌∙◌, arith}
use Rattle.std.proofs.lemmas.List.{length-map, length-append}
use Rattle.std.specs.List.{AllByRecursion}
use Rattle.stark_support.specs.Ring.{RingOps, RingLaws, FieldLaws}
use Rattle.stark_support.specs.FieldFacts.{cancel_left}
use Rattle.stark_support.specs.Powers.{power}
use Rattle.stark_support.specs.PowerFacts.{power-add, power-one, power-mul, power-power}
use Rattle.stark_support.specs.TwoAdic.{HasOrder}
use Rattle.stark_support.specs.Polynomial.{IsWithoutRepeats}
use Rattle.stark_support.specs.Points.{powers_from, coset_points, CosetsDisjoint}

pub all_append : {A : Type 0} (P : A → Type 0) (xs ys : List A) → AllByRecursion P xs → AllByRecursion P ys → AllByRecursion P (xs ++ ys)
all_append P [] ys h k = k
all_append P (x ∷ xs) ys h k = (h.0, all_append P xs ys h.1 k)

pub all_mapped : {A B : Type 0} (f : A → B) (P : B → Type 0) (xs : List A) → AllByRecursion (λ x. P (f x)) xs → AllByRecursion P (map f xs)
all_mapped f P [] h = tt
all_mapped f P (x ∷ xs) h = (h.0, all_mapped f P xs h.1)

pub all_unmapped : {A B : Type 0} (f : A → B) (P : B → Type 0) (xs : List A) → AllByRecursion P (map f xs) → AllByRecursion (λ x. P (f x)) xs
all_unmapped f P [] h = tt
all_unmapped f P (x ∷ xs) h = (h.0, all_unmapped f P xs h.1)

pub all_both : {A : Type 0} (P Q R : A → Type 0) → ((x : A) → P x → Q x → R x) → (xs : List A) → AllByRecursion P xs → AllByRecursion Q xs → AllByRecursion R xs
all_both P Q R f [] h k = tt
all_both P Q R f (x ∷ xs) h k = (f x h.0 k.0, all_both P Q R f xs h.1 k.1)

apart_append : {K : Type 0} (xs ys : List K) → IsWithoutRepeats xs → IsWithoutRepeats ys → AllByRecursion (λ x. AllByRecursion (λ y. x ≢ y) ys) xs → IsWithoutRepeats (xs ++ ys)
apart_append [] ys h k cross = k
apart_append (x ∷ xs) ys h k cross = (all_append (λ y. x ≢ y) xs ys h.0 cross.0, apart_append xs ys h.1 k cross.1)

below_next : (m l : ℕ) → m < m + suc l
below_next m l = omega arith

within_next : (k m l : ℕ) → k < suc m + l → k < m + suc l
within_next k m l h = omega arith

plain_sum : (k n : ℕ) → k < 0 + n → k < n
plain_sum k n h = omega arith

less_next : (i m : ℕ) → i < m → i < suc m
less_next i m h = omega arith

one_later : (m l n : ℕ) → m + suc l ≤ n → suc m + l ≤ n
one_later m l n h = omega arith

gap_positive : (i k : ℕ) → i < k → 0 < k - i
gap_positive i k h = omega arith

gap_small : (i k n : ℕ) → k < n → k - i < n
gap_small i k n h = omega arith

moved : (i k n : ℕ) → i < k → k < n → (k - i) + n ≡ k + (n - i)
moved i k n less below = omega arith

joined : (i k n : ℕ) → i < k → k < n → i + (n - i) ≡ n
joined i k n less below = omega arith

times_comm : (m n : ℕ) → m * n ≡ n * m
times_comm m n = omega arith

no_times : (n : ℕ) → 0 ≡ 0 * n
no_times n = omega arith

pub one_more_time : (n m : ℕ) → n + m * n ≡ suc m * n
one_more_time n m = omega arith

pub powers_length : {K : Type 0} (ring : RingOps K) (g : K) (m n : ℕ) → length (powers_from ring g m n) ≡ n
powers_length ring g m zero = refl
powers_length ring g m (suc n) = ap suc (powers_length ring g (suc m) n)

all_from : {K : Type 0} (ring : RingOps K) (P : K → Type 0) (g : K) (m l : ℕ) → ((k : ℕ) → k < m + l → P (power ring g k)) → AllByRecursion P (powers_from ring g m l)
all_from ring P g m zero h = tt
all_from ring P g m (suc l) h = (h m (below_next m l), all_from ring P g (suc m) l (λ k below. h k (within_next k m l below)))

-- a property of all elements of the group
pub all_powers : {K : Type 0} (ring : RingOps K) (P : K → Type 0) (g : K) (n : ℕ) → ((k : ℕ) → k < n → P (power ring g k)) → AllByRecursion P (powers_from ring g 0 n)
all_powers ring P g n h = all_from ring P g 0 n (λ k below. h k (plain_sum k n below))

-- a property of all points of a coset
pub all_on_coset : {K : Type 0} (ring : RingOps K) (P : K → Type 0) (g : K) (n : ℕ) (s : K) → ((k : ℕ) → k < n → P (ring.mul s (power ring g k))) → AllByRecursion P (map (ring.mul s) (powers_from ring g 0 n))
all_on_coset ring P g n s h = all_mapped (ring.mul s) P (powers_from ring g 0 n) (all_powers ring (λ w. P (ring.mul s w)) g n h)

module _ {K : Type 0} {ring : RingOps K} (laws : RingLaws ring) where
  -- The powers of an element of the group stay in the group.
  pub power_of_point : (g : K) (n k : ℕ) → power ring g n ≡ ring.one → power ring (power ring g k) n ≡ ring.one
  power_of_point g n k reaches =
      power-power laws g k n ∙ ap (power ring g) (times_comm k n) ∙ sym (power-power laws g n k) ∙ ap (λ w. power ring w k) reaches ∙ power-one laws k

  -- All points of a coset have one n-th power.
  pub power_on_coset : (g s : K) (n k : ℕ) → power ring g n ≡ ring.one → power ring (ring.mul s (power ring g k)) n ≡ power ring s n
  power_on_coset g s n k reaches = power-mul laws s (power ring g k) n ∙ ap (ring.mul (power ring s n)) (power_of_point g n k reaches) ∙ laws.mul_one _

  -- Two powers below the order differ.
  pub powers_of_order_differ : (g : K) (n i k : ℕ) → HasOrder ring g n → i < k → k < n → power ring g i ≢ power ring g k
  powers_of_order_differ g n i k order less below e =
      order.first (k - i) (gap_positive i k less) (gap_small i k n below)
      (sym (laws.mul_one _) ∙ ap (ring.mul (power ring g (k - i))) (sym order.reaches) ∙ sym (power-add laws g (k - i) n) ∙
      ap (power ring g) (moved i k n less below) ∙ power-add laws g k (n - i) ∙
      ap (λ w. ring.mul w (power ring g (n - i))) (sym e) ∙ sym (power-add laws g i (n - i)) ∙
      ap (power ring g) (joined i k n less below) ∙ order.reaches)

  later_differ : (g : K) (n i m l : ℕ) → HasOrder ring g n → i < m → m + l ≤ n → AllByRecursion (λ y. power ring g i ≢ y) (powers_from ring g m l)
  later_differ g n i m zero order less within = tt
  later_differ g n i m (suc l) order less within =
      (powers_of_order_differ g n i m order less (omega arith), later_differ g n i (suc m) l order (less_next i m less) (one_later m l n within))

  distinct_from : (g : K) (n m l : ℕ) → HasOrder ring g n → m + l ≤ n → IsWithoutRepeats (powers_from ring g m l)
  distinct_from g n m zero order within = tt
  distinct_from g n m (suc l) order within =
      (later_differ g n m (suc m) l order (omega arith) (one_later m l n within), distinct_from g n (suc m) l order (one_later m l n within))

  -- The elements of the group are without repeats.
  pub powers_without_repeats : (g : K) (n : ℕ) → HasOrder ring g n → IsWithoutRepeats (powers_from ring g 0 n)
  powers_without_repeats g n order = distinct_from g n 0 n order (omega arith)

module _ {K : Type 0} {ring : RingOps K} {inverse : K → K} (laws : FieldLaws ring inverse) where
  multiples_differ : (s w : K) (xs : List K) → s ≢ ring.zero → AllByRecursion (λ y. w ≢ y) xs → AllByRecursion (λ y. ring.mul s w ≢ y) (map (ring.mul s) xs)
  multiples_differ s w [] nonzero h = tt
  multiples_differ s w (x ∷ xs) nonzero h = ((λ e. h.0 (cancel_left laws s w x nonzero e)), multiples_differ s w xs nonzero h.1)

  multiples_without_repeats : (s : K) (xs : List K) → s ≢ ring.zero → IsWithoutRepeats xs → IsWithoutRepeats (map (ring.mul s) xs)
  multiples_without_repeats s [] nonzero h = tt
  multiples_without_repeats s (x ∷ xs) nonzero h = (multiples_differ s x xs nonzero h.0, multiples_without_repeats s xs nonzero h.1)

  module _ (g : K) (n : ℕ) where
    pub points_length : (shifts : List K) → length (coset_points ring g n shifts) ≡ length shifts * n
    points_length [] = no_times n
    points_length (s ∷ shifts) =
        length-append (map (ring.mul s) (powers_from ring g 0 n)) (coset_points ring g n shifts) ∙
        ap (λ l. l + length (coset_points ring g n shifts)) (length-map (powers_from ring g 0 n) (ring.mul s) ∙ powers_length ring g 0 n) ∙
        ap (λ l. n + l) (points_length shifts) ∙ one_more_time n (length shifts)

    module _ (order : HasOrder ring g n) where
      apart_from_points : (x : K) (shifts : List K) → AllByRecursion (λ s. power ring x n ≢ power ring s n) shifts → AllByRecursion (λ y. x ≢ y) (coset_points ring g n shifts)
      apart_from_points x [] h = tt
      apart_from_points x (s ∷ shifts) h =
          all_append (λ y. x ≢ y) (map (ring.mul s) (powers_from ring g 0 n)) (coset_points ring g n shifts)
          (all_on_coset ring (λ y. x ≢ y) g n s (λ k below e. h.0 (ap (λ w. power ring w n) e ∙ power_on_coset laws.of_ring g s n k order.reaches)))
          (apart_from_points x shifts h.1)

      -- The points of disjoint cosets are without repeats.
      pub points_without_repeats : (shifts : List K) → AllByRecursion (λ s. s ≢ ring.zero) shifts → CosetsDisjoint ring n shifts → IsWithoutRepeats (coset_points ring g n shifts)
      points_without_repeats [] nonzero disjoint = tt
      points_without_repeats (s ∷ shifts) nonzero disjoint =
          let others : (k : ℕ) → AllByRecursion (λ o. power ring (ring.mul s (power ring g k)) n ≢ power ring o n) shifts =
          λ k. all_unmapped (λ o. power ring o n) (λ w. power ring (ring.mul s (power ring g k)) n ≢ w) shifts
          (rw (power_on_coset laws.of_ring g s n k order.reaches) disjoint.0) in
          apart_append (map (ring.mul s) (powers_from ring g 0 n)) (coset_points ring g n shifts)
          (multiples_without_repeats s (powers_from ring g 0 n) nonzero.0 (powers_without_repeats laws.of_ring g n order))
          (points_without_repeats shifts nonzero.1 disjoint.1)
          (all_on_coset ring (λ x. AllByRecursion (λ y. x ≢ y) (coset_points ring g n shifts)) g n s
          (λ k below. apart_from_points (ring.mul s (power ring g k)) shifts (others k)))

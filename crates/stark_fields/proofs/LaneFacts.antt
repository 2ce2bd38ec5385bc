-- Vectors of four numbers below 12289: what the operations ask, and what each lane then holds.
use Rattle.std.proofs.Common.{◌≡◌, ℕ, ◌+◌, ◌-◌, ◌*◌, ◌/◌, ◌%◌, ◌^◌, ◌<◌, ◌≤◌, min, List, [], ◌∷◌, length, map, get_or, slice_set, refl, sym, ◌∙◌, ap, arith, Fits, w32, bit_and, zero, suc, lit<, subst}
use Rattle.std.proofs.lemmas.Simd.{Each2-of, Each1-from_get_or, zip2_splat_left, length-zip2, tops_compared}
use Rattle.std.proofs.lemmas.Bool.{cond_both, ltb-true, ltb-false}
use Rattle.std.proofs.lemmas.List.{length-map}
use Rattle.std.proofs.lemmas.Nat.{and_mask, mul-le, mul-mod_first, mul-mod_second, mod_below}
use Rattle.std.proofs.Math.Nat.{add-mod-mod, mod-add-mod, mod-eq_of_lt}
use lib.Lanes.{zip2, Each1, Each2, sel_l, top}
use lib.Dec.{ltb}
use mathlib.Core.Bool.{cond}
use Rattle.stark_fields.specs.Residues.{residue, residue_ring, residue_of_value}
use Rattle.stark_fields.specs.ResidueLanes.{in_fours, in_fours_same, four_numbers, lane, in_each_lane, lanes_ring, same_numbers, number_sums, number_products, number_complements, number_remainders}
use Rattle.stark_fields.specs.SmallResidues.{Residue12289, residue12289}
use Rattle.stark_fields.specs.declared.lanes.Lanes.{Lanes}

abbrev Below : ℕ → Type 0
Below n = n < 12289

abbrev IsModulus : ℕ → Type 0
IsModulus n = n ≡ 12289

abbrev moduli : List ℕ
moduli = 12289 ∷ 12289 ∷ 12289 ∷ 12289 ∷ []

all_moduli : Each1 IsModulus moduli
all_moduli = (refl, (refl, (refl, (refl, tt))))

all_below : (xs : List ℕ) → ((j : ℕ) → get_or xs j 0 < 12289) → Each1 Below xs
all_below xs h = Each1-from_get_or Below xs 0 (λ i _. h i)

-- ---- a mask of 14 bits takes nothing away
short : (n : ℕ) → n < 12289 → bit_and n 16383 ≡ n
short n h = and_mask n 14 ∙ mod-eq_of_lt (omega arith)

pub short_are : {M : Type 0} (x : Lanes M) → zip2 bit_and x.numbers (16383 ∷ 16383 ∷ 16383 ∷ 16383 ∷ []) ≡ x.numbers
short_are x =
    ap (λ us. zip2 bit_and us (16383 ∷ 16383 ∷ 16383 ∷ 16383 ∷ [])) (sym (four_numbers x.numbers x.four))
    ∙ in_fours_same (λ i. bit_and (get_or x.numbers i 0) 16383) (λ i. get_or x.numbers i 0) (λ i _. short (get_or x.numbers i 0) (x.in_range i))
    ∙ four_numbers x.numbers x.four

-- ---- no lane wraps
module _ {M : Type 0} (x y : Lanes M) where
  pub sums_are : zip2 (λ a b. a + b) x.numbers y.numbers ≡ number_sums x y
  unfolding number_sums
  sums_are = refl

  pub products_are : zip2 (λ a b. a * b) x.numbers y.numbers ≡ number_products x y
  unfolding number_products
  products_are = refl

  pub sums_fit : Each2 (λ a b. Fits w32 (a + b)) x.numbers y.numbers
  sums_fit = Each2-of Below Below _ (λ a b h k. record { fits = omega arith }) _ _ (all_below _ x.in_range) (all_below _ y.in_range)

  pub products_fit : Each2 (λ a b. Fits w32 (a * b)) x.numbers y.numbers
  products_fit =
      Each2-of Below Below _ (λ a b h k. record { fits = omega (arith, mul-le a b 12288 12288 (omega arith) (omega arith)) }) _ _
      (all_below _ x.in_range) (all_below _ y.in_range)

  pub products_fit_in : (xs ys : List ℕ) → xs ≡ x.numbers → ys ≡ y.numbers → Each2 (λ a b. Fits w32 (a * b)) xs ys
  products_fit_in xs ys e f = subst (λ us. Each2 (λ a b. Fits w32 (a * b)) us ys) (sym e) (subst (λ us. Each2 (λ a b. Fits w32 (a * b)) x.numbers us) (sym f) products_fit)

  pub products_are_of : (xs ys : List ℕ) → xs ≡ x.numbers → ys ≡ y.numbers → zip2 (λ a b. a * b) xs ys ≡ number_products x y
  products_are_of xs ys e f = (λ i. zip2 (λ a b. a * b) (e i) (f i)) ∙ products_are

module _ {M : Type 0} (x : Lanes M) where
  pub complements_fit : Each2 (λ (a b : ℕ). b ≤ a) moduli x.numbers
  complements_fit = Each2-of IsModulus Below (λ (a b : ℕ). b ≤ a) (λ a b h k. omega arith) moduli _ all_moduli (all_below _ x.in_range)

  pub complements_are : zip2 (λ a b. a - b) moduli x.numbers ≡ number_complements x
  unfolding number_complements
  complements_are = zip2_splat_left (λ a b. a - b) 12289 4 x.numbers x.four

-- ---- remainders: in a lane, where n is reduced, below 2 * 12289, or below four products of residues
once_lane : (n : ℕ) → n < 24578 → min n ((n + (2 ^ 32 - 12289)) % 2 ^ 32) ≡ n % 12289
once_lane n h = omega arith

-- n less 12289 times the quotient that a factor and a shift give
abbrev rest_near : ℕ → ℕ → ℕ → ℕ
rest_near factor shift n = (n + (2 ^ 32 - ((n / 2 ^ 13 * factor) % 2 ^ 32 / 2 ^ shift * 12289) % 2 ^ 32)) % 2 ^ 32

rest_below : (n : ℕ) → n ≤ 754987008 → rest_near 43687 16 n < 24578
rest_below n h = omega arith

rest_same : (n : ℕ) → n ≤ 754987008 → rest_near 43687 16 n % 12289 ≡ n % 12289
rest_same n h = omega arith

product_rest_below : (n : ℕ) → n ≤ 150994944 → rest_near 21843 15 n < 24578
product_rest_below n h = omega arith

product_rest_same : (n : ℕ) → n ≤ 150994944 → rest_near 21843 15 n % 12289 ≡ n % 12289
product_rest_same n h = omega arith

abbrev fours : ℕ → List ℕ
fours n = n ∷ n ∷ n ∷ n ∷ []

abbrev rests : ℕ → ℕ → List ℕ → List ℕ
rests factor shift xs =
    zip2 (λ a b. (a + (2 ^ 32 - b)) % 2 ^ 32) xs
    (zip2 (λ a b. (a * b) % 2 ^ 32) (zip2 (λ a b. a / 2 ^ b) (zip2 (λ a b. (a * b) % 2 ^ 32) (zip2 (λ a b. a / 2 ^ b) xs (fours 13)) (fours factor)) (fours shift)) moduli)

abbrev pub AtMost : ℕ → List ℕ → Type 0
AtMost n xs = (j : ℕ) → get_or xs j 0 ≤ n

at_four : (f : ℕ → ℕ) (n : ℕ) → ((i : ℕ) → f i < n) → (j : ℕ) → get_or (in_fours f) j 0 < n
at_four f n h zero = h 0
at_four f n h (suc zero) = h 1
at_four f n h (suc (suc zero)) = h 2
at_four f n h (suc (suc (suc zero))) = h 3
at_four f n h (suc (suc (suc (suc j)))) = omega (arith, h 0)

module _ (factor shift : ℕ) (xs : List ℕ) (four : length xs ≡ 4) where
  rests_at : rests factor shift xs ≡ in_fours (λ i. rest_near factor shift (get_or xs i 0))
  rests_at = ap (rests factor shift) (sym (four_numbers xs four))

  pub rests_four : length (rests factor shift xs) ≡ 4
  rests_four = ap length rests_at

  all_rests_below : ((i : ℕ) → rest_near factor shift (get_or xs i 0) < 24578) → (j : ℕ) → get_or (rests factor shift xs) j 0 < 24578
  all_rests_below h j = subst (λ us. get_or us j 0 < 24578) (sym rests_at) (at_four (λ i. rest_near factor shift (get_or xs i 0)) 24578 h j)

  all_rests_same : ((i : ℕ) → rest_near factor shift (get_or xs i 0) % 12289 ≡ get_or xs i 0 % 12289) → number_remainders (rests factor shift xs) ≡ number_remainders xs
  unfolding number_remainders
  all_rests_same h =
      ap (map (λ n. n % 12289)) rests_at
      ∙ in_fours_same (λ i. rest_near factor shift (get_or xs i 0) % 12289) (λ i. get_or xs i 0 % 12289) (λ i _. h i)
      ∙ ap (map (λ n. n % 12289)) (four_numbers xs four)

module _ (xs : List ℕ) (four : length xs ≡ 4) where
  pub rests_below : AtMost 754987008 xs → (j : ℕ) → get_or (rests 43687 16 xs) j 0 < 24578
  rests_below h = all_rests_below 43687 16 xs four (λ i. rest_below (get_or xs i 0) (h i))

  pub rests_same : AtMost 754987008 xs → number_remainders (rests 43687 16 xs) ≡ number_remainders xs
  rests_same h = all_rests_same 43687 16 xs four (λ i. rest_same (get_or xs i 0) (h i))

  pub product_rests_below : AtMost 150994944 xs → (j : ℕ) → get_or (rests 21843 15 xs) j 0 < 24578
  product_rests_below h = all_rests_below 21843 15 xs four (λ i. product_rest_below (get_or xs i 0) (h i))

  pub product_rests_same : AtMost 150994944 xs → number_remainders (rests 21843 15 xs) ≡ number_remainders xs
  product_rests_same h = all_rests_same 21843 15 xs four (λ i. product_rest_same (get_or xs i 0) (h i))

-- the lesser number of each two
lesser : (a b : ℕ) → cond (ltb a b) a b ≡ min a b
lesser a b = cond_both (ltb a b) a b (λ n. n ≡ min a b) (λ e. omega (arith, ltb-true a b e)) (λ e. omega (arith, ltb-false a b e))

lessers : (xs ys : List ℕ) → sel_l (zip2 ltb xs ys) xs ys ≡ zip2 min xs ys
lessers [] ys = refl
lessers (x ∷ xs) [] = refl
lessers (x ∷ xs) (y ∷ ys) = λ i. lesser x y i ∷ lessers xs ys i

abbrev less_modulus : List ℕ → List ℕ
less_modulus xs = zip2 (λ a b. (a + (2 ^ 32 - b)) % 2 ^ 32) xs moduli

abbrev lesser_numbers : List ℕ → List ℕ
lesser_numbers xs = sel_l (map (top 31) (zip2 (λ a b. cond (ltb a b) (2 ^ 32 - 1) 0) xs (less_modulus xs))) xs (less_modulus xs)

pub lesser_are_remainders : (xs : List ℕ) → length xs ≡ 4 → ((i : ℕ) → get_or xs i 0 < 24578) → lesser_numbers xs ≡ number_remainders xs
unfolding number_remainders
lesser_are_remainders xs four below =
    ap (λ ms. sel_l ms xs (less_modulus xs)) (tops_compared w32 ltb xs (less_modulus xs))
    ∙ lessers xs (less_modulus xs)
    ∙ ap (λ us. zip2 min us (less_modulus us)) (sym (four_numbers xs four))
    ∙ in_fours_same (λ i. min (get_or xs i 0) ((get_or xs i 0 + (2 ^ 32 - 12289)) % 2 ^ 32)) (λ i. get_or xs i 0 % 12289) (λ i _. once_lane (get_or xs i 0) (below i))
    ∙ ap (map (λ n. n % 12289)) (four_numbers xs four)

remainder_below : (xs : List ℕ) (j : ℕ) → get_or (number_remainders xs) j 0 < 12289
unfolding number_remainders
remainder_below [] j = lit< tt
remainder_below (x ∷ xs) zero = mod_below x 12289 (lit< tt)
remainder_below (x ∷ xs) (suc j) = remainder_below xs j

pub remainders_below : (ns xs : List ℕ) → ns ≡ number_remainders xs → (j : ℕ) → get_or ns j 0 < 12289
remainders_below ns xs e j = subst (λ ys. get_or ys j 0 < 12289) (sym e) (remainder_below xs j)

pub remainders_four : (ns xs : List ℕ) → ns ≡ number_remainders xs → length xs ≡ 4 → length ns ≡ 4
unfolding number_remainders
remainders_four ns xs e h = ap length e ∙ length-map xs (λ n. n % 12289) ∙ h

-- ---- how great sums and products are
sum_at_most : (m n : ℕ) (xs ys : List ℕ) → AtMost m xs → AtMost n ys → AtMost (m + n) (zip2 (λ a b. a + b) xs ys)
sum_at_most m n [] ys h k j = omega arith
sum_at_most m n (x ∷ xs) [] h k j = omega arith
sum_at_most m n (x ∷ xs) (y ∷ ys) h k zero = omega (arith, h 0, k 0)
sum_at_most m n (x ∷ xs) (y ∷ ys) h k (suc j) = sum_at_most m n xs ys (λ l. h (suc l)) (λ l. k (suc l)) j

product_at_most : (m n : ℕ) (xs ys : List ℕ) → AtMost m xs → AtMost n ys → AtMost (m * n) (zip2 (λ a b. a * b) xs ys)
product_at_most m n [] ys h k j = omega arith
product_at_most m n (x ∷ xs) [] h k j = omega arith
product_at_most m n (x ∷ xs) (y ∷ ys) h k zero = mul-le x y m n (h 0) (k 0)
product_at_most m n (x ∷ xs) (y ∷ ys) h k (suc j) = product_at_most m n xs ys (λ l. h (suc l)) (λ l. k (suc l)) j

complement_at_most : (xs : List ℕ) → AtMost 12289 (map (λ n. 12289 - n) xs)
complement_at_most [] j = omega arith
complement_at_most (x ∷ xs) zero = omega arith
complement_at_most (x ∷ xs) (suc j) = complement_at_most xs j

in_lanes_at_most : (xs : List ℕ) (n : ℕ) → ((j : ℕ) → get_or xs j 0 ≤ n) → Each1 (λ a. a ≤ n) xs
in_lanes_at_most xs n h = Each1-from_get_or (λ a. a ≤ n) xs 0 (λ i _. h i)

pub adds_fit : (m n : ℕ) (xs ys us vs : List ℕ) → xs ≡ us → ys ≡ vs → AtMost m us → AtMost n vs → m + n < 2 ^ 32 → Each2 (λ a b. Fits w32 (a + b)) xs ys
adds_fit m n xs ys us vs e f h k small =
    Each2-of (λ a. a ≤ m) (λ a. a ≤ n) _ (λ a b p q. record { fits = omega arith }) _ _
    (in_lanes_at_most xs m (subst (AtMost m) (sym e) h)) (in_lanes_at_most ys n (subst (AtMost n) (sym f) k))

module _ {M : Type 0} (x : Lanes M) where
  numbers_at_most : AtMost 12288 x.numbers
  numbers_at_most j = omega (arith, x.in_range j)

  pub complements_below : (j : ℕ) → get_or (number_complements x) j 0 < 24578
  unfolding number_complements
  complements_below j = omega (arith, complement_at_most x.numbers j)

module _ {M : Type 0} (x y : Lanes M) where
  pub sums_below : (j : ℕ) → get_or (number_sums x y) j 0 < 24578
  unfolding number_sums
  sums_below j = omega (arith, sum_at_most 12288 12288 x.numbers y.numbers (numbers_at_most x) (numbers_at_most y) j)

  pub products_at_most : AtMost 150994944 (number_products x y)
  unfolding number_products
  products_at_most = product_at_most 12288 12288 x.numbers y.numbers (numbers_at_most x) (numbers_at_most y)

abbrev pub added : List ℕ → List ℕ → List ℕ
added xs ys = zip2 (λ a b. a + b) xs ys

module _ {M : Type 0} (x y z w : Lanes M) where
  pub two_at_most : AtMost 301989888 (added (number_products x y) (number_products z w))
  two_at_most = sum_at_most 150994944 150994944 _ _ (products_at_most x y) (products_at_most z w)

  pub two_below : AtMost 754987008 (added (number_products x y) (number_products z w))
  two_below j = omega (arith, two_at_most j)

module _ {M : Type 0} (x y z w u v : Lanes M) where
  pub three_below : AtMost 754987008 (added (added (number_products x y) (number_products z w)) (number_products u v))
  three_below j = omega (arith, sum_at_most 301989888 150994944 _ _ (two_at_most x y z w) (products_at_most u v) j)

module _ {M : Type 0} (x y z w u v s t : Lanes M) where
  pub four_below : AtMost 754987008 (added (added (number_products x y) (number_products z w)) (added (number_products u v) (number_products s t)))
  four_below j = omega (arith, sum_at_most 301989888 301989888 _ _ (two_at_most x y z w) (two_at_most u v s t) j)

pub added_same : {xs us ys vs : List ℕ} → xs ≡ us → ys ≡ vs → added xs ys ≡ added us vs
added_same e f = λ i. added (e i) (f i)

added_assoc : (xs ys zs : List ℕ) → added (added xs ys) zs ≡ added xs (added ys zs)
added_assoc [] ys zs = refl
added_assoc (x ∷ xs) [] zs = refl
added_assoc (x ∷ xs) (y ∷ ys) [] = refl
added_assoc (x ∷ xs) (y ∷ ys) (z ∷ zs) = let e : x + y + z ≡ x + (y + z) = omega arith in λ i. e i ∷ added_assoc xs ys zs i

-- ---- what each lane holds
zipped_four : (f : ℕ → ℕ → ℕ) (xs ys : List ℕ) → length xs ≡ 4 → length ys ≡ 4 → length (zip2 f xs ys) ≡ 4
zipped_four f xs ys p q = length-zip2 f xs ys (p ∙ sym q) ∙ p

zipped : (f : ℕ → ℕ → ℕ) (g : ℕ → ℕ) (xs ys : List ℕ) → length xs ≡ 4 → length ys ≡ 4 → ((i : ℕ) → f (get_or xs i 0) (get_or ys i 0) % 12289 ≡ g i)
    → map (λ n. n % 12289) (zip2 f xs ys) ≡ in_fours g
zipped f g xs ys p q h =
    ap (λ us. map (λ n. n % 12289) (zip2 f us ys)) (sym (four_numbers xs p))
    ∙ ap (λ vs. map (λ n. n % 12289) (zip2 f (in_fours (λ i. get_or xs i 0)) vs)) (sym (four_numbers ys q))
    ∙ in_fours_same (λ i. f (get_or xs i 0) (get_or ys i 0) % 12289) g (λ i _. h i)

mapped : (f : ℕ → ℕ) (g : ℕ → ℕ) (xs : List ℕ) → length xs ≡ 4 → ((i : ℕ) → f (get_or xs i 0) % 12289 ≡ g i) → map (λ n. n % 12289) (map f xs) ≡ in_fours g
mapped f g xs p h =
    ap (λ us. map (λ n. n % 12289) (map f us)) (sym (four_numbers xs p)) ∙ in_fours_same (λ i. f (get_or xs i 0) % 12289) g (λ i _. h i)

sum_lane : (a b : ℕ) → (a + b) % 12289 ≡ (a % 12289 + b % 12289) % 12289
sum_lane a b = simp (mod-add-mod, add-mod-mod)

product_lane : (a b : ℕ) → (a * b) % 12289 ≡ (a % 12289 * (b % 12289)) % 12289
product_lane a b = simp (mul-mod_first, mul-mod_second)

module _ {M : Type 0} (x y : Lanes M) where
  pub sums_four : length (number_sums x y) ≡ 4
  unfolding number_sums
  sums_four = zipped_four (λ a b. a + b) _ _ x.four y.four

  pub products_four : length (number_products x y) ≡ 4
  unfolding number_products
  products_four = zipped_four (λ a b. a * b) _ _ x.four y.four

  pub sum_is : (ns : List ℕ) (r : Lanes M) → ns ≡ number_sums x y → r.numbers ≡ number_remainders ns → r ≡ lanes_ring.add x y
  unfolding number_sums number_remainders lanes_ring
  sum_is ns r h e = same_numbers _ _ (e ∙ ap (map (λ n. n % 12289)) h ∙ zipped (λ a b. a + b) (λ i. (residue_ring.add (lane x i) (lane y i)).value) _ _ x.four y.four (λ i. sum_lane _ _))

  pub product_numbers : (lanes_ring.mul x y).numbers ≡ number_remainders (number_products x y)
  unfolding number_products number_remainders lanes_ring
  product_numbers = sym (zipped (λ a b. a * b) (λ i. (residue_ring.mul (lane x i) (lane y i)).value) _ _ x.four y.four (λ i. product_lane _ _))

  pub product_is : (ns : List ℕ) (r : Lanes M) → ns ≡ number_products x y → r.numbers ≡ number_remainders ns → r ≡ lanes_ring.mul x y
  product_is ns r h e = same_numbers _ _ (e ∙ ap number_remainders h ∙ sym product_numbers)

-- ---- numbers that are not reduced stand for residues
abbrev pub Stand : {M : Type 0} → List ℕ → Lanes M → Type 0
Stand ns r = (length ns ≡ 4) × (number_remainders ns ≡ r.numbers)

remainder_at : (xs : List ℕ) (i : ℕ) → get_or (number_remainders xs) i 0 ≡ get_or xs i 0 % 12289
unfolding number_remainders
remainder_at [] i = refl
remainder_at (x ∷ xs) zero = refl
remainder_at (x ∷ xs) (suc i) = remainder_at xs i

sum_of_remainders : (a b r s : ℕ) → r ≡ a % 12289 → s ≡ b % 12289 → (a + b) % 12289 ≡ (r % 12289 + s % 12289) % 12289
sum_of_remainders a b r s e f = omega arith

module _ {M : Type 0} where
  pub products_stand : (x y : Lanes M) → Stand (number_products x y) (lanes_ring.mul x y)
  products_stand x y = (products_four x y, sym (product_numbers x y))

  stands_at : (ns : List ℕ) (r : Lanes M) → Stand ns r → (i : ℕ) → get_or r.numbers i 0 ≡ get_or ns i 0 % 12289
  stands_at ns r h i = ap (λ us. get_or us i 0) (sym h.1) ∙ remainder_at ns i

  pub sums_stand : (xs ys : List ℕ) (r s : Lanes M) → Stand xs r → Stand ys s → Stand (added xs ys) (lanes_ring.add r s)
  unfolding number_remainders lanes_ring
  sums_stand xs ys r s p q = (
    zipped_four (λ a b. a + b) xs ys p.0 q.0,
    zipped (λ a b. a + b) (λ i. (residue_ring.add (lane r i) (lane s i)).value) xs ys p.0 q.0
        (λ i. sum_of_remainders (get_or xs i 0) (get_or ys i 0) _ _ (stands_at xs r p i) (stands_at ys s q i)),
  )

  pub is_standing : (ns : List ℕ) (r q : Lanes M) → Stand ns r → q.numbers ≡ number_remainders ns → q ≡ r
  is_standing ns r q h e = same_numbers _ _ (e ∙ h.1)

module _ {M : Type 0} (x y z w u v : Lanes M) where
  pub three_stand : Stand (added (added (number_products x y) (number_products z w)) (number_products u v)) (lanes_ring.add (lanes_ring.add (lanes_ring.mul x y) (lanes_ring.mul z w)) (lanes_ring.mul u v))
  three_stand = sums_stand _ _ _ _ (sums_stand _ _ _ _ (products_stand x y) (products_stand z w)) (products_stand u v)

  pub three_stand_last : Stand (added (added (number_products x y) (number_products z w)) (number_products u v)) (lanes_ring.add (lanes_ring.mul x y) (lanes_ring.add (lanes_ring.mul z w) (lanes_ring.mul u v)))
  three_stand_last =
      subst (λ ns. Stand ns (lanes_ring.add (lanes_ring.mul x y) (lanes_ring.add (lanes_ring.mul z w) (lanes_ring.mul u v))))
      (sym (added_assoc (number_products x y) (number_products z w) (number_products u v)))
      (sums_stand _ _ _ _ (products_stand x y) (sums_stand _ _ _ _ (products_stand z w) (products_stand u v)))

module _ {M : Type 0} (x y z w u v s t : Lanes M) where
  pub four_stand : Stand (added (added (number_products x y) (number_products z w)) (added (number_products u v) (number_products s t)))
      (lanes_ring.add (lanes_ring.add (lanes_ring.mul x y) (lanes_ring.mul z w)) (lanes_ring.add (lanes_ring.mul u v) (lanes_ring.mul s t)))
  four_stand = sums_stand _ _ _ _ (sums_stand _ _ _ _ (products_stand x y) (products_stand z w)) (sums_stand _ _ _ _ (products_stand u v) (products_stand s t))

  pub four_stand_middle : Stand (added (added (number_products x y) (number_products z w)) (added (number_products u v) (number_products s t)))
      (lanes_ring.add (lanes_ring.add (lanes_ring.mul x y) (lanes_ring.add (lanes_ring.mul z w) (lanes_ring.mul u v))) (lanes_ring.mul s t))
  four_stand_middle =
      subst (λ ns. Stand ns (lanes_ring.add (lanes_ring.add (lanes_ring.mul x y) (lanes_ring.add (lanes_ring.mul z w) (lanes_ring.mul u v))) (lanes_ring.mul s t)))
      (added_assoc (added (number_products x y) (number_products z w)) (number_products u v) (number_products s t))
      (sums_stand _ _ _ _ (three_stand_last x y z w u v) (products_stand s t))

-- ---- sums of products, one more after the other
-- numbers that are at most n and stand for residues
pub record Standing {M : Type 0} (n : ℕ) (ns : List ℕ) (r : Lanes M) : Type 0 where
  pub at_most : AtMost n ns
  pub stand : Stand ns r

module _ {M : Type 0} where
  pub numbers_standing : (x : Lanes M) → Standing 12288 x.numbers x
  unfolding number_remainders
  numbers_standing x = record {
    at_most = numbers_at_most x;
    stand = (
      x.four,
      ap (map (λ n. n % 12289)) (sym (four_numbers x.numbers x.four))
          ∙ in_fours_same (λ i. get_or x.numbers i 0 % 12289) (λ i. get_or x.numbers i 0) (λ i _. mod-eq_of_lt (x.in_range i))
          ∙ four_numbers x.numbers x.four,
    );
  }

  pub one_more_standing : (n : ℕ) (x y : Lanes M) (ns ms : List ℕ) (r : Lanes M) → Standing n ns r → ms ≡ added (number_products x y) ns
      → Standing (150994944 + n) ms (lanes_ring.add (lanes_ring.mul x y) r)
  one_more_standing n x y ns ms r h e =
      subst (λ us. Standing (150994944 + n) us (lanes_ring.add (lanes_ring.mul x y) r)) (sym e)
      (record { at_most = sum_at_most 150994944 n _ _ (products_at_most x y) h.at_most; stand = sums_stand _ _ _ _ (products_stand x y) h.stand })

module _ {M : Type 0} (x : Lanes M) where
  pub complements_four : length (number_complements x) ≡ 4
  unfolding number_complements
  complements_four = length-map x.numbers (λ n. 12289 - n) ∙ x.four

  pub opposite_is : (ns : List ℕ) (r : Lanes M) → ns ≡ number_complements x → r.numbers ≡ number_remainders ns → r ≡ lanes_ring.neg x
  unfolding number_complements number_remainders lanes_ring
  opposite_is ns r h e =
      same_numbers _ _
      (e ∙ ap (map (λ n. n % 12289)) h ∙ mapped (λ n. 12289 - n) (λ i. (residue_ring.neg (lane x i)).value) _ x.four (λ i. ap (λ n. (12289 - n) % 12289) (sym (mod-eq_of_lt (x.in_range i)))))

-- ---- one residue in each lane
pub same_in_each : {M : Type 0} (x : Residue12289 M) (y : Lanes M) → y.numbers ≡ x.value ∷ x.value ∷ x.value ∷ x.value ∷ [] → y ≡ in_each_lane x
unfolding in_each_lane
same_in_each x y e = same_numbers y (in_each_lane x) e

-- ---- four residues
pub four_residues : {M : Type 0} (a b c d : Residue12289 M) → residue12289 {K = M} a.value ∷ residue b.value ∷ residue c.value ∷ residue d.value ∷ [] ≡ a ∷ b ∷ c ∷ d ∷ []
four_residues a b c d = λ t. residue_of_value a t ∷ residue_of_value b t ∷ residue_of_value c t ∷ residue_of_value d t ∷ []

-- ---- one lane replaced
pub replaced_below : (xs : List ℕ) (i n : ℕ) → n < 12289 → ((j : ℕ) → get_or xs j 0 < 12289) → (j : ℕ) → get_or (slice_set xs i n) j 0 < 12289
replaced_below [] i n k h j = h j
replaced_below (x ∷ xs) zero n k h zero = k
replaced_below (x ∷ xs) zero n k h (suc j) = h (suc j)
replaced_below (x ∷ xs) (suc i) n k h zero = h 0
replaced_below (x ∷ xs) (suc i) n k h (suc j) = replaced_below xs i n k (λ l. h (suc l)) j

replaced_at : {M : Type 0} (f : ℕ → ℕ) (i n : ℕ) → i < 4 → in_fours (λ j. residue12289 {K = M} (get_or (slice_set (in_fours f) i n) j 0)) ≡ slice_set (in_fours (λ j. residue (f j))) i (residue n)
replaced_at f zero n h = refl
replaced_at f (suc zero) n h = refl
replaced_at f (suc (suc zero)) n h = refl
replaced_at f (suc (suc (suc zero))) n h = refl
replaced_at f (suc (suc (suc (suc i)))) n h = absurd (omega arith)

pub replaced_lanes : {M : Type 0} (x : Lanes M) (i : ℕ) (y : Residue12289 M) → i < 4 → in_fours (λ j. residue12289 {K = M} (get_or (slice_set x.numbers i y.value) j 0)) ≡ slice_set (in_fours (lane x)) i y
replaced_lanes x i y h =
    ap (λ ns. in_fours (λ j. residue (get_or (slice_set ns i y.value) j 0))) (sym (four_numbers x.numbers x.four))
    ∙ replaced_at (λ j. get_or x.numbers j 0) i y.value h
    ∙ ap (slice_set (in_fours (lane x)) i) (residue_of_value y)

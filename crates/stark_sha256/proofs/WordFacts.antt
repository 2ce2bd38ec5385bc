-- Operations on several words at once, seen in one lane; and Maj in fewer operations.
use Rattle.std.proofs.Common.{◌≡◌, ℕ, ◌+◌, ◌-◌, ◌*◌, ◌/◌, ◌%◌, ◌^◌, ◌<◌, List, length, map, replicate, slice_index, bit_and, bit_or, bit_xor, min, arith, refl, ap, sym, ◌∙◌}
use Rattle.std.proofs.lemmas.List.{get_or-map, length-map}
use Rattle.std.proofs.lemmas.Nat.Bits.{bit_at-lt, bit_at_and, bit_at_xor, same_from_bits}
use Rattle.std.proofs.lemmas.Simd.{get_or-zip2, length-replicate, length-zip2, get_or-replicate}
use Rattle.std.specs.Simd.Lanes.{zip2}
use Rattle.std.specs.Int.{bit_not, rotate_right, w32}

abbrev shr : ℕ → ℕ → ℕ
shr a n = a / 2 ^ n

abbrev shl : ℕ → ℕ → ℕ
shl a n = a * 2 ^ n % 2 ^ 32

-- ---- one lane of n

module _ (n : ℕ) where
  pub zipped_lane : (f : ℕ → ℕ → ℕ) (x y : List ℕ) (j : ℕ) → length x ≡ n → length y ≡ n → j < n
      → slice_index (zip2 f x y) j ≡ f (slice_index x j) (slice_index y j)
  zipped_lane f x y j ex ey h = get_or-zip2 f x y j 0 0 0 (omega arith) (omega arith)

  mapped_lane : (f : ℕ → ℕ) (x : List ℕ) (j : ℕ) → length x ≡ n → j < n
      → slice_index (map f x) j ≡ f (slice_index x j)
  mapped_lane f x j ex h = get_or-map f x j 0 0 (omega arith)

  -- with one word in each lane
  splatted_lane : (f : ℕ → ℕ → ℕ) (x : List ℕ) (k j : ℕ) → length x ≡ n → j < n
      → slice_index (zip2 f x (replicate n k)) j ≡ f (slice_index x j) k
  splatted_lane f x k j ex h =
      zipped_lane f x (replicate n k) j ex (length-replicate n k) h ∙ ap (f (slice_index x j)) (get_or-replicate n j k 0 h)

  pub and_not_lane : (x y : List ℕ) (j : ℕ) → length x ≡ n → length y ≡ n → j < n
      → slice_index (zip2 bit_and (map (bit_not w32) x) y) j
      ≡ bit_and (bit_not w32 (slice_index x j)) (slice_index y j)
  and_not_lane x y j ex ey h =
      let flipped : List ℕ = map (bit_not w32) x in
      let el : length flipped ≡ n = length-map x (bit_not w32) ∙ ex in
      zipped_lane bit_and flipped y j el ey h
      ∙ ap (λ (a : ℕ). bit_and a (slice_index y j)) (mapped_lane (bit_not w32) x j ex h)

  pub shifted_lane : (x : List ℕ) (k j : ℕ) → length x ≡ n → j < n
      → slice_index (zip2 shr x (replicate n k)) j ≡ slice_index x j / 2 ^ k
  shifted_lane = splatted_lane shr

  -- two shifts and an or are a rotation
  pub rotated_lane : (x : List ℕ) (k j : ℕ) → 0 < k → k < 32 → length x ≡ n → j < n
      → slice_index (zip2 bit_or (zip2 shr x (replicate n k)) (zip2 shl x (replicate n (32 - k)))) j
      ≡ rotate_right w32 (slice_index x j) k
  rotated_lane x k j some below ex h =
      let low : k % 32 ≡ k = omega arith in
      let high : (32 - k) % 32 ≡ 32 - k = omega arith in
      let right : List ℕ = zip2 shr x (replicate n k) in
      let left : List ℕ = zip2 shl x (replicate n (32 - k)) in
      let er : length right ≡ n = length-zip2 shr x (replicate n k) (ex ∙ sym (length-replicate n k)) ∙ ex in
      let el : length left ≡ n = length-zip2 shl x (replicate n (32 - k)) (ex ∙ sym (length-replicate n (32 - k))) ∙ ex in
      rw (
        zipped_lane bit_or right left j er el h,
        splatted_lane shr x k j ex h,
        splatted_lane shl x (32 - k) j ex h,
        low,
        high,
      ) refl

-- ---- Maj

maj_of_bits : (p q r : ℕ) → p < 2 → q < 2 → r < 2
    → (min ((p + q) % 2) ((q + r) % 2) + q) % 2 ≡ ((min p q + min p r) % 2 + min q r) % 2
maj_of_bits p q r hp hq hr = omega arith

-- by the bits in which two words differ from the third
pub maj_by_differences : (x y z : ℕ)
    → bit_xor (bit_and (bit_xor x y) (bit_xor y z)) y
    ≡ bit_xor (bit_xor (bit_and x y) (bit_and x z)) (bit_and y z)
maj_by_differences x y z =
    same_from_bits _ _ (λ i. simp (bit_at_xor, bit_at_and)
    (maj_of_bits _ _ _ (bit_at-lt x i) (bit_at-lt y i) (bit_at-lt z i)))

-- The two halves of a coset's places, and how many of a set are in them.
use Rattle.std.specs.Prelude.{◌≡◌, ℕ, zero, suc, ◌+◌, ◌-◌, ◌*◌, ◌/◌, ◌^◌, ◌%◌, ◌<◌, ◌≤◌, Bool, ◌||◌}
use Rattle.std.proofs.Common.{sym, ap, ◌∙◌, inl, inr, arith, pow-suc}
use Rattle.std.proofs.Math.Arith.{digits_mod}
use Rattle.std.proofs.Math.Nat.{mod-eq_of_lt, mod-lt}
use Rattle.std.proofs.lemmas.Bool.{or_left, or_right}
use Rattle.std.proofs.lemmas.Nat.{pow_pos}
use Rattle.stark_fri_soundness.specs.Agreement.{count}
use Rattle.stark_fri_soundness.specs.Counting.{count_in, count_more, count_none, count_out, counted}

pub low_place : (i n : ℕ) → i < n → i % n ≡ i
low_place i n low = mod-eq_of_lt low

pub high_place : (i n : ℕ) → n ≤ i → i < 2 * n → i % n + n ≡ i
high_place i n high below =
    let r = i - n in
    let split : 1 * n + r ≡ i = omega arith in
    let small : r < n = omega arith in
    ap (λ t. t % n + n) (sym split) ∙ ap (λ t. t + n) (digits_mod 1 small) ∙ omega arith

-- half way round lies the same place of the half
pub opposite_in_half : (j n : ℕ) → j < n → (j + n) % n ≡ j
opposite_in_half j n low = let turned : j + n ≡ 1 * n + j = omega arith in ap (λ t. t % n) turned ∙ digits_mod 1 low

pub place_below : (i k : ℕ) → i % 2 ^ k < 2 ^ k
place_below i k = mod-lt i (pow_pos k)

pub two_times : (k : ℕ) → 2 ^ suc k ≡ 2 * 2 ^ k
two_times k = omega (arith, pow-suc 2 k)

pub size_is_twice : (l : ℕ) → 1 ≤ l → 2 ^ l ≡ 2 * 2 ^ (l - 1)
size_is_twice l some = let whole : l ≡ suc (l - 1) = omega arith in ap (λ k. 2 ^ k) whole ∙ two_times (l - 1)

-- The places of a set are those below a and those from there on.
count_sum : (a b : ℕ) (places : ℕ → Bool) → count (b + a) places ≡ count a places + count b (λ i. places (i + a))
count_sum a zero places = let none = count_none (λ i. places (i + a)) in let plain : 0 + a ≡ a = omega arith in ap (λ n. count n places) plain ∙ omega arith
count_sum a (suc b) places =
    let rest = count_sum a b places in
    let next : suc b + a ≡ suc (b + a) = omega arith in
    ap (λ n. count n places) next ∙ elim (counted (b + a) places) [
      | inl is ↦ let other = count_in b (λ i. places (i + a)) is.0 in omega arith
      | inr is ↦ let other = count_out b (λ i. places (i + a)) is.0 in omega arith
    ]

-- The places of the half over which a set has a place.
abbrev pub under : ℕ → (ℕ → Bool) → ℕ → Bool
under n places j = places j || places (j + n)

pub count_under : (n : ℕ) (places : ℕ → Bool) → count (2 * n) places ≤ 2 * count n (under n places)
count_under n places =
    let twice : 2 * n ≡ n + n = omega arith in
    let split : count (2 * n) places ≡ count n places + count n (λ i. places (i + n)) = ap (λ k. count k places) twice ∙ count_sum n n places in
    let low = count_more n places (under n places) (λ j _ is. or_left (places j) (places (j + n)) is) in
    let high = count_more n (λ i. places (i + n)) (under n places) (λ j _ is. or_right (places j) (places (j + n)) is) in
    omega arith

-- Halved with the places, as many are left out at most.
pub halved : (n e s t : ℕ) → 2 * n ≤ s + e → s ≤ 2 * t → n ≤ t + e / 2
halved n e s t h k = omega arith

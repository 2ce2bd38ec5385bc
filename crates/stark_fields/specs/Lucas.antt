-- A ring of n + 1 elements in which an element has the order n is a field: that element's powers are all elements but zero.
use Rattle.std.specs.Prelude.{◌≡◌, ◌≢◌, ◌⊎◌, ℕ, suc, ◌+◌, ◌-◌, ◌<◌, ◌≤◌}
use Rattle.std.proofs.Common.{sym, ◌∙◌, ap, inl, inr, arith, cond, eqb}
use Rattle.std.proofs.lemmas.Bool.Decides.{eqb_tells}
use Rattle.std.proofs.Math.Nat.{mul_comm}
use Rattle.stark_support.specs.Ring.{RingOps, RingLaws, FieldLaws}
use Rattle.stark_support.specs.RingFacts.{one_mul, mul_zero}
use Rattle.stark_support.specs.Powers.{power}
use Rattle.stark_support.specs.PowerFacts.{power-add, power-one, power-power, power_of_square}
use Rattle.stark_support.specs.TwoAdic.{HasOrder}
use Rattle.stark_fields.specs.Pigeonhole.{Misses, pigeonhole, find_below}

-- the elements are numbered up to n, zero by 0
pub record IsNumbered {K : Type 0} (ring : RingOps K) (number : K → ℕ) (n : ℕ) : Type 0 where
  pub within : (x : K) → number x ≤ n
  pub same : (x y : K) → number x ≡ number y → x ≡ y
  pub zero_is : number ring.zero ≡ 0
  pub one_not_zero : ring.one ≢ ring.zero

module _ {K : Type 0} {ring : RingOps K} (laws : RingLaws ring) (number : K → ℕ) (n : ℕ) (numbered : IsNumbered ring number n) where
  pub decided : (x y : K) → (x ≡ y) ⊎ (x ≢ y)
  decided x y = elim (eqb_tells (number x) (number y)) [
    | inl w ↦ inl (numbered.same x y w.1)
    | inr w ↦ inr (λ e. w.1 (ap number e))
  ]

  pub numbered_positive : (x : K) → x ≢ ring.zero → 0 < number x
  numbered_positive x nonzero = let other : number x ≢ 0 = λ e. nonzero (numbered.same x ring.zero (e ∙ sym numbered.zero_is)) in omega (arith, other)

  module _ (g : K) (order : HasOrder ring g n) where
    power_nonzero : (i : ℕ) → i ≤ n → power ring g i ≢ ring.zero
    power_nonzero i h e =
        let sum : i + (n - i) ≡ n = omega arith in
        numbered.one_not_zero (sym order.reaches ∙ ap (λ t. power ring g t) (sym sum) ∙ power-add laws g i (n - i)
        ∙ ap (λ t. ring.mul t (power ring g (n - i))) e ∙ laws.mul_comm _ _ ∙ mul_zero laws _)

    powers_apart : (i j : ℕ) → i < j → j < n → power ring g i ≢ power ring g j
    powers_apart i j lt below e =
        let low : (n - i) + i ≡ n = omega arith in
        let high : (n - i) + j ≡ n + (j - i) = omega arith in
        let times = ap (ring.mul (power ring g (n - i))) e in
        order.first (j - i) (omega arith) (omega arith)
        (sym (one_mul laws _) ∙ ap (λ t. ring.mul t (power ring g (j - i))) (sym order.reaches) ∙ sym (power-add laws g n (j - i))
        ∙ ap (λ t. power ring g t) (sym high) ∙ power-add laws g (n - i) j ∙ sym times ∙ sym (power-add laws g (n - i) i) ∙ ap (λ t. power ring g t) low ∙ order.reaches)

    -- the powers, and x behind them
    abbrev listed : K → ℕ → K
    listed x i = cond (eqb i n) x (power ring g i)

    listed_power : (x : K) (i : ℕ) → i < n → listed x i ≡ power ring g i
    listed_power x i lt = elim (eqb_tells i n) [
      | inl w ↦ absurd (omega (arith, w.1))
      | inr w ↦ ap (λ b. cond b x (power ring g i)) w.0
    ]

    listed_last : (x : K) (i : ℕ) → i ≡ n → listed x i ≡ x
    listed_last x i is = elim (eqb_tells i n) [
      | inl w ↦ ap (λ b. cond b x (power ring g i)) w.0
      | inr w ↦ absurd (w.1 is)
    ]

    last_or_below : (i : ℕ) → i ≤ n → (i ≡ n) ⊎ (i < n)
    last_or_below i h = grind arith

    listed_nonzero : (x : K) → x ≢ ring.zero → (i : ℕ) → i ≤ n → listed x i ≢ ring.zero
    listed_nonzero x nonzero i h e = elim (last_or_below i h) [
      | inl last ↦ nonzero (sym (listed_last x i last) ∙ e)
      | inr below ↦ power_nonzero i h (sym (listed_power x i below) ∙ e)
    ]

    listed_apart : (x : K) → ((i : ℕ) → i < n → power ring g i ≡ x → ⊥) → (i j : ℕ) → i < j → j ≤ n → listed x i ≢ listed x j
    listed_apart x none i j lt h e = elim (last_or_below j h) [
      | inl last ↦ none i (omega (arith, lt, last)) (sym (listed_power x i (omega (arith, lt, last))) ∙ e ∙ listed_last x j last)
      | inr below ↦ powers_apart i j lt below (sym (listed_power x i (omega (arith, lt, below))) ∙ e ∙ listed_power x j below)
    ]

    abbrev place : K → ℕ → ℕ
    place x i = number (listed x i) - 1

    misses : (x : K) → x ≢ ring.zero → ((i : ℕ) → i < n → power ring g i ≡ x → ⊥) → Misses (place x) n
    misses x nonzero none = record {
      below = λ i h. omega (arith, numbered.within (listed x i), numbered_positive (listed x i) (listed_nonzero x nonzero i h));
      apart = λ i j lt h e.
          let first = numbered_positive (listed x i) (listed_nonzero x nonzero i (omega (arith, lt, h))) in
          let second = numbered_positive (listed x j) (listed_nonzero x nonzero j h) in
          let same : number (listed x i) ≡ number (listed x j) = omega (arith, first, second, e) in
          listed_apart x none i j lt h (numbered.same _ _ same);
    }

    -- each element but zero is a power of g
    pub is_power : (x : K) → x ≢ ring.zero → (i : ℕ) × (i < n) × (power ring g i ≡ x)
    is_power x nonzero = elim (find_below (λ i. power ring g i ≡ x) (λ i. decided (power ring g i) x) n) [
      | inl obtained ↦ obtained
      | inr none ↦ absurd (pigeonhole n (place x) (misses x nonzero none))
    ]

    -- Fermat: its power n is one
    pub fermat : (x : K) → x ≢ ring.zero → power ring x n ≡ ring.one
    fermat x nonzero =
        let obtained = is_power x nonzero in
        let i = obtained.0 in
        ap (λ t. power ring t n) (sym obtained.2) ∙ power-power laws g i n ∙ ap (λ t. power ring g t) (mul_comm i n) ∙ sym (power-power laws g n i)
        ∙ ap (λ t. power ring t i) order.reaches ∙ power-one laws i

    pub power_inverts : (x : K) → x ≢ ring.zero → (k : ℕ) → suc k ≡ n → ring.mul x (power ring x k) ≡ ring.one
    unfolding power
    power_inverts x nonzero k is = ap (λ t. power ring x t) is ∙ fermat x nonzero

    -- The field, where x ^ (n - 1) is the inverse.
    pub lucas : (k : ℕ) → suc k ≡ n → FieldLaws ring (λ x. power ring x k)
    lucas k is = record {
      of_ring = laws;
      one_not_zero = numbered.one_not_zero;
      mul_inverse = λ x nonzero. power_inverts x nonzero k is;
      decides = decided;
    }

    -- Euler: what has another power at n / 2 is no square.
    pub no_square : (half : ℕ) → half + half ≡ n → (c : K) → c ≢ ring.zero → power ring c half ≢ ring.one → (x : K) → ring.mul x x ≢ c
    no_square half is c nonzero other x e =
        let not_zero : x ≢ ring.zero = λ z. nonzero (sym e ∙ ap (λ t. ring.mul t x) z ∙ laws.mul_comm _ _ ∙ mul_zero laws x) in
        other (ap (λ t. power ring t half) (sym e) ∙ power_of_square laws x half ∙ ap (λ t. power ring x t) is ∙ fermat x not_zero)

-- The residues are a field, by the powers of the generator: what the modulus brings was computed.
use Rattle.std.specs.Prelude.{◌≡◌, ◌≢◌, ◌⊎◌, ℕ, suc, zero, ◌+◌, ◌-◌, ◌*◌, ◌/◌, ◌%◌, ◌^◌, true, ◌<◌, ◌≤◌}
use Rattle.std.proofs.Common.{sym, ◌∙◌, ap, inl, inr, arith, pow-suc}
use Rattle.std.proofs.lemmas.Nat.{mod_below}
use Rattle.std.proofs.Math.Nat.{mod-eq_of_lt, div-le_self}
use Rattle.stark_support.specs.Ring.{RingOps, FieldLaws, IsQuarticConstant}
use Rattle.stark_support.specs.Powers.{power, squarings}
use Rattle.stark_support.specs.PowerFacts.{power-add}
use Rattle.stark_support.specs.RingSolver.{both_parts}
use Rattle.stark_support.specs.TwoAdic.{TwoAdicLaws, HasOrder}
use Rattle.stark_fields.specs.Factors.{is_prime, list_product, not_equal, prime_positive, find_factor}
use Rattle.stark_fields.specs.Order.{Escapes, order_is}
use Rattle.stark_fields.specs.Lucas.{lucas, no_square}
use Rattle.stark_fields.specs.Moduli.{power_step, power_mod, squared_mod, keeps_apart}
use Rattle.stark_fields.specs.Residues.{above_one, positive, residue, residue_ring, residue_ring_laws, residue_inverse, residue_product, residue_reduced, is_numbered}
use Rattle.stark_fields.specs.declared.modulus.Modulus.{Ghosts}
use Rattle.stark_fields.specs.declared.residue.Residue.{Residue}

-- the element of order 2 ^ k: the root squared as often as k is below the adicity
abbrev pub root : {M K : Type 0} {G : Ghosts M} → ℕ → Residue M K G
root {M} {K} {G} k = squarings residue_ring (residue G.ROOT) (G.TWO_ADICITY - k)

-- ---- halves of exponents
twice_half : (n : ℕ) → n % 2 ≡ 0 → n / 2 + n / 2 ≡ n
twice_half n even = omega arith

one_past_twice : (n : ℕ) → n % 2 ≡ 1 → suc (n / 2 + n / 2) ≡ n
one_past_twice n odd = omega arith

even_or_odd : (n : ℕ) → (n % 2 ≡ 0) ⊎ (n % 2 ≡ 1)
even_or_odd n = grind arith

half_below : (bits n : ℕ) → n < 2 ^ suc bits → n / 2 < 2 ^ bits
half_below bits n h = omega (arith, pow-suc 2 bits, h)

even_step : (p x n h : ℕ) → n % 2 ≡ 0 → power_step p x (n % 2) h ≡ h * h % p
even_step p x n h e = ap (λ odd. power_step p x odd h) e

odd_step : (p x n h : ℕ) → n % 2 ≡ 1 → power_step p x (n % 2) h ≡ h * h % p * x % p
odd_step p x n h e = ap (λ odd. power_step p x odd h) e

power_mod_below : (p x bits n : ℕ) → 0 < p → power_mod p x bits n < p
unfolding power_mod
power_mod_below p x zero n h = mod_below 1 p h
power_mod_below p x (suc bits) n h = elim (even_or_odd n) [
  | inl even ↦ rw (even_step p x n (power_mod p x bits (n / 2)) even) (mod_below _ p h)
  | inr odd ↦ rw (odd_step p x n (power_mod p x bits (n / 2)) odd) (mod_below _ p h)
]

squared_mod_below : (p x k : ℕ) → 0 < p → squared_mod p x k < p
unfolding squared_mod
squared_mod_below p x zero h = mod_below x p h
squared_mod_below p x (suc k) h = mod_below _ p h

pub number_fits : (p : ℕ) → p < 2 ^ 31 → p ≤ 2 ^ 64
number_fits p h = omega (arith, h)

exponent_below : (p n : ℕ) → p < 2 ^ 31 → n < p → n < 2 ^ 32
exponent_below p n h below = omega (arith, h, below)

quotient_below : (p q : ℕ) → 0 < p → (p - 1) / q < p
quotient_below p q h = omega (arith, div-le_self (p - 1) q, h)

primes_of : (p g q : ℕ) → keeps_apart p g q ≡ true → is_prime q ≡ true
unfolding keeps_apart
primes_of p g q e = (both_parts (is_prime q) _ e).0

powers_of : (p g q : ℕ) → keeps_apart p g q ≡ true → power_mod p g 32 ((p - 1) / q) ≢ 1
unfolding keeps_apart
powers_of p g q e = not_equal _ 1 (both_parts (is_prime q) _ e).1

less_none : (a : ℕ) → a - 0 ≡ a
less_none a = omega arith

next : (a k : ℕ) → k < a → suc (a - suc k) ≡ a - k
next a k h = omega arith

module _ {M : Type 0} (K : Type 0) (G : Ghosts M) where
  abbrev ring : RingOps (Residue M K G)
  ring = residue_ring

  abbrev p : ℕ
  p = G.MODULUS

  square_is : (h : ℕ) → ring.mul (residue h) (residue h) ≡ residue (h * h % p)
  square_is h = residue_product h h ∙ sym (residue_reduced (h * h))

  -- ---- powers of residues, by computing on numbers
  power_none : (x n : ℕ) → n < 1 → power ring (residue x) n ≡ residue (1 % p)
  unfolding power
  power_none x zero h = sym (residue_reduced 1)
  power_none x (suc n) h = absurd (omega arith)

  power_odd : (x h n : ℕ) → n % 2 ≡ 1 → power ring (residue x) (n / 2) ≡ residue h → power ring (residue x) n ≡ residue (h * h % p * x % p)
  unfolding power
  power_odd x h n odd half =
      ap (λ k. power ring (residue x) k) (sym (one_past_twice n odd))
      ∙ ap (ring.mul (residue x)) (power-add residue_ring_laws (residue x) (n / 2) (n / 2) ∙ ap (λ t. ring.mul t t) half ∙ square_is h)
      ∙ residue_ring_laws.mul_comm (residue x) (residue (h * h % p)) ∙ residue_product (h * h % p) x ∙ sym (residue_reduced (h * h % p * x))

  power_even : (x h n : ℕ) → n % 2 ≡ 0 → power ring (residue x) (n / 2) ≡ residue h → power ring (residue x) n ≡ residue (h * h % p)
  power_even x h n even half =
      ap (λ k. power ring (residue x) k) (sym (twice_half n even))
      ∙ power-add residue_ring_laws (residue x) (n / 2) (n / 2) ∙ ap (λ t. ring.mul t t) half ∙ square_is h

  pub power_value : (x bits n : ℕ) → n < 2 ^ bits → power ring (residue x) n ≡ residue (power_mod p x bits n)
  unfolding power_mod
  power_value x zero n h = power_none x n h
  power_value x (suc bits) n h =
      let inner = power_mod p x bits (n / 2) in
      let half = power_value x bits (n / 2) (half_below bits n h) in
      elim (even_or_odd n) [
        | inl even ↦ power_even x inner n even half ∙ ap (λ k. residue k) (sym (even_step p x n inner even))
        | inr odd ↦ power_odd x inner n odd half ∙ ap (λ k. residue k) (sym (odd_step p x n inner odd))
      ]

  pub squarings_value : (x k : ℕ) → squarings ring (residue x) k ≡ residue (squared_mod p x k)
  unfolding squarings squared_mod
  squarings_value x zero = sym (residue_reduced x)
  squarings_value x (suc k) = ap (λ t. ring.mul t t) (squarings_value x k) ∙ square_is (squared_mod p x k)

  pub residue_apart : (m n : ℕ) → m < p → n < p → m ≢ n → residue {M = M} {K = K} {G = G} m ≢ residue n
  residue_apart m n h k other e =
      let values : m % p ≡ n % p = ap (λ (x : Residue M K G). x.value) e in
      other (sym (mod-eq_of_lt h) ∙ values ∙ mod-eq_of_lt k)

  power_not_one : (x n : ℕ) → n < p → power_mod p x 32 n ≢ 1 → power ring (residue x) n ≢ ring.one
  power_not_one x n h other e =
      residue_apart (power_mod p x 32 n) 1 (power_mod_below p x 32 n (positive G)) (above_one G) other (sym (power_value x 32 n (exponent_below p n G.prime.below h)) ∙ e)

  -- ---- the order of the generator
  power_reaches : power ring (residue G.GENERATOR) (p - 1) ≡ ring.one
  power_reaches = power_value G.GENERATOR 32 (p - 1) (exponent_below p (p - 1) G.prime.below (omega (arith, positive G))) ∙ ap (λ k. residue k) G.prime.reaches

  generator_escapes : (d e : ℕ) → d * e ≡ p - 1 → e ≢ 1 → Escapes ring (residue G.GENERATOR) (p - 1) e
  generator_escapes d e h other =
      let product : list_product G.prime.factors ≡ p - 1 = omega (arith, G.prime.product) in
      let obtained = find_factor (keeps_apart p G.GENERATOR) (primes_of p G.GENERATOR) G.prime.factors G.prime.apart d e (h ∙ sym product) other in
      record {
        prime = obtained.prime;
        positive = prime_positive obtained.prime (primes_of p G.GENERATOR obtained.prime obtained.passes);
        divides = obtained.divides;
        other = power_not_one G.GENERATOR ((p - 1) / obtained.prime) (quotient_below p obtained.prime (positive G)) (powers_of p G.GENERATOR obtained.prime obtained.passes);
      }

  pub generator_order : HasOrder ring (residue G.GENERATOR) (p - 1)
  generator_order = order_is residue_ring_laws (residue G.GENERATOR) (p - 1) power_reaches generator_escapes

  less_two : suc (p - 2) ≡ p - 1
  less_two = omega (arith, above_one G)

  pub residue_laws : FieldLaws ring residue_inverse
  unfolding residue_inverse
  residue_laws = lucas residue_ring_laws (λ x. x.value) (p - 1) is_numbered (residue G.GENERATOR) generator_order (p - 2) less_two

  -- ---- what is no square
  two_halves : p / 2 + p / 2 ≡ p - 1
  two_halves = omega (arith, G.non_square.halves)

  half_order : p / 2 < p
  half_order = omega (arith, positive G)

  no_square_is : (c : ℕ) → 0 < c → c < p → power_mod p c 32 (p / 2) ≢ 1 → (x : Residue M K G) → ring.mul x x ≢ residue c
  no_square_is c some below other =
      no_square residue_ring_laws (λ x. x.value) (p - 1) is_numbered (residue G.GENERATOR) generator_order (p / 2) two_halves (residue c)
      (residue_apart c 0 below (positive G) (λ e. omega (arith, e, some))) (power_not_one c (p / 2) half_order other)

  opposite_of_constant : ring.neg (residue G.QUARTIC_CONSTANT) ≡ residue (p - G.QUARTIC_CONSTANT)
  opposite_of_constant = ap (λ n. residue (p - n)) (mod-eq_of_lt G.non_square.below)

  pub quartic_constant : IsQuarticConstant ring (residue G.QUARTIC_CONSTANT)
  quartic_constant = record {
    no_root = no_square_is G.QUARTIC_CONSTANT G.non_square.some G.non_square.below G.non_square.other;
    no_negative_root = λ x e.
        no_square_is (p - G.QUARTIC_CONSTANT) (omega (arith, G.non_square.below)) (omega (arith, G.non_square.below, G.non_square.some)) G.non_square.negative_other x (e ∙ opposite_of_constant);
  }

  -- ---- roots of one
  opposite_of_one : ring.neg ring.one ≡ residue (p - 1)
  opposite_of_one = ap (λ n. residue (p - n)) (mod-eq_of_lt (above_one G))

  outside : squarings ring (residue G.GENERATOR) G.TWO_ADICITY ≢ ring.one
  outside e = residue_apart (squared_mod p G.GENERATOR G.TWO_ADICITY) 1 (squared_mod_below p G.GENERATOR G.TWO_ADICITY (positive G)) (above_one G) G.two_adic.outside (sym (squarings_value G.GENERATOR G.TWO_ADICITY) ∙ e)

  pub two_adic_laws : TwoAdicLaws ring G.TWO_ADICITY root (residue G.GENERATOR)
  unfolding squarings
  two_adic_laws = record {
    bounded = omega (arith, G.two_adic.bounded);
    root_zero = ap (λ n. squarings ring (residue G.ROOT) n) (less_none G.TWO_ADICITY) ∙ squarings_value G.ROOT G.TWO_ADICITY ∙ ap (λ k. residue k) G.two_adic.one;
    root_one = squarings_value G.ROOT (G.TWO_ADICITY - 1) ∙ ap (λ k. residue k) G.two_adic.minus_one ∙ sym opposite_of_one;
    root_square = λ k h. ap (λ n. squarings ring (residue G.ROOT) n) (next G.TWO_ADICITY k h);
    odd = λ e. residue_apart 1 (p - 1) (above_one G) (omega (arith, positive G)) (λ same. omega (arith, same, G.prime.above)) (e ∙ opposite_of_one);
    outside = outside;
    generator_nonzero = residue_apart G.GENERATOR 0 G.prime.generator_below (positive G) (λ e. omega (arith, e, G.prime.generator_some));
  }

-- What shows that the numbers below p, modulo p, are a field, with the roots and constants that a proof system wants: each a fact that the checker computes.
use Rattle.std.specs.Prelude.{◌≡◌, ◌≢◌, ℕ, suc, zero, ◌-◌, ◌*◌, ◌/◌, ◌%◌, ◌^◌, ◌<◌, ◌≤◌, Bool, true, ◌&&◌, not, List, ◌==◌, if◌then◌else◌}
use Rattle.stark_fields.specs.Factors.{is_prime, list_product, each_passes}

abbrev pub power_step : ℕ → ℕ → ℕ → ℕ → ℕ
power_step p x odd h = if odd == 1 then h * h % p * x % p else h * h % p

-- x ^ n modulo p, where n has at most so many bits
unfoldable pub power_mod : ℕ → ℕ → ℕ → ℕ → ℕ
power_mod p x zero n = 1 % p
power_mod p x (suc bits) n = power_step p x (n % 2) (power_mod p x bits (n / 2))

abbrev pub square_step : ℕ → ℕ → ℕ
square_step p h = h * h % p

-- x squared k times, modulo p
unfoldable pub squared_mod : ℕ → ℕ → ℕ → ℕ
squared_mod p x zero = x % p
squared_mod p x (suc k) = square_step p (squared_mod p x k)

-- q is a prime, and the power of g at (p - 1) / q isn't one
unfoldable pub keeps_apart : ℕ → ℕ → ℕ → Bool
keeps_apart p g q = is_prime q && not (power_mod p g 32 ((p - 1) / q) == 1)

-- p is a prime of at most 31 bits, since the powers of g below p - 1 differ: p - 1 is the product of these primes.
pub record IsPrimeModulus (p g : ℕ) : Type 0 where
  pub above : 255 < p
  pub below : p < 2 ^ 31
  pub generator_some : 0 < g
  pub generator_below : g < p
  pub factors : List ℕ
  pub product : suc (list_product factors) ≡ p
  pub reaches : power_mod p g 32 (p - 1) ≡ 1
  pub apart : each_passes (keeps_apart p g) factors ≡ true

-- Each number below p has room in this number of bytes.
pub record IsWrittenIn (bytes p : ℕ) : Type 0 where
  pub few : bytes ≤ 8
  pub fits : p ≤ 256 ^ bytes

-- Neither c nor its opposite is a square.
pub record IsNonSquare (p c : ℕ) : Type 0 where
  pub some : 0 < c
  pub below : c < p
  pub halves : p % 2 ≡ 1
  pub other : power_mod p c 32 (p / 2) ≢ 1
  pub negative_other : power_mod p (p - c) 32 (p / 2) ≢ 1

-- r has the order 2 ^ bits, and g lies outside the group of that order.
pub record IsTwoAdic (p g bits r : ℕ) : Type 0 where
  pub bounded : bits < 32
  pub some : 0 < bits
  pub odd_part : 0 < (p - 1) / 2 ^ bits
  pub multiple : (p - 1) / 2 ^ bits * 2 ^ bits ≡ p - 1
  pub one : squared_mod p r bits ≡ 1
  pub minus_one : squared_mod p r (bits - 1) ≡ p - 1
  pub outside : squared_mod p g bits ≢ 1

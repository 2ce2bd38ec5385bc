-- The modulus 12289 = 3 * 2 ^ 12 + 1.
use Rattle.std.specs.Prelude.{ℕ, List, [], ◌∷◌, refl}
use Rattle.std.proofs.Common.{lit<, lit≤, arith}
use Rattle.stark_fields.specs.Factors.{is_prime, list_product, each_passes, passes_below}
use Rattle.stark_fields.specs.Moduli.{power_mod, squared_mod, keeps_apart, IsPrimeModulus, IsNonSquare, IsTwoAdic, IsWrittenIn}

abbrev prime_factors : List ℕ
prime_factors = 2 ∷ 2 ∷ 2 ∷ 2 ∷ 2 ∷ 2 ∷ 2 ∷ 2 ∷ 2 ∷ 2 ∷ 2 ∷ 2 ∷ 3 ∷ []

pub is_prime_modulus : IsPrimeModulus 12289 11
unfolding power_mod list_product each_passes passes_below is_prime keeps_apart
is_prime_modulus = record { above = lit< tt; below = lit< tt; generator_some = lit< tt; generator_below = lit< tt; factors = prime_factors; product = refl; reaches = refl; apart = refl }

pub is_written : IsWrittenIn 2 12289
is_written = record { few = lit≤ tt; fits = lit≤ tt }

pub eleven_is_non_square : IsNonSquare 12289 11
unfolding power_mod
eleven_is_non_square = record { some = lit< tt; below = lit< tt; halves = refl; other = λ e. absurd (omega (arith, e)); negative_other = λ e. absurd (omega (arith, e)) }

pub is_two_adic : IsTwoAdic 12289 11 12 1331
unfolding squared_mod
is_two_adic = record { bounded = lit< tt; some = lit< tt; odd_part = lit< tt; multiple = refl; one = refl; minus_one = refl; outside = λ e. absurd (omega (arith, e)) }

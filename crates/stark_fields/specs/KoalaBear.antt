-- The modulus 2130706433 = 127 * 2 ^ 24 + 1.
use Rattle.std.specs.Prelude.{ℕ, List, [], ◌∷◌, refl}
use Rattle.std.proofs.Common.{lit<, lit≤, arith}
use Rattle.stark_fields.specs.Factors.{is_prime, list_product, each_passes, passes_below}
use Rattle.stark_fields.specs.Moduli.{power_mod, squared_mod, keeps_apart, IsPrimeModulus, IsNonSquare, IsTwoAdic, IsWrittenIn}

abbrev prime_factors : List ℕ
prime_factors =
    2 ∷ 2 ∷ 2 ∷ 2 ∷ 2 ∷ 2 ∷ 2 ∷ 2 ∷ 2 ∷ 2 ∷ 2 ∷ 2 ∷ 2 ∷ 2 ∷ 2 ∷ 2 ∷ 2 ∷ 2 ∷ 2 ∷ 2 ∷ 2 ∷ 2 ∷ 2 ∷ 2 ∷ 127 ∷ []

pub is_prime_modulus : IsPrimeModulus 2130706433 3
unfolding power_mod list_product each_passes passes_below is_prime keeps_apart
is_prime_modulus = record { above = lit< tt; below = lit< tt; generator_some = lit< tt; generator_below = lit< tt; factors = prime_factors; product = refl; reaches = refl; apart = refl }

pub is_written : IsWrittenIn 4 2130706433
is_written = record { few = lit≤ tt; fits = lit≤ tt }

pub three_is_non_square : IsNonSquare 2130706433 3
unfolding power_mod
three_is_non_square = record { some = lit< tt; below = lit< tt; halves = refl; other = λ e. absurd (omega (arith, e)); negative_other = λ e. absurd (omega (arith, e)) }

pub is_two_adic : IsTwoAdic 2130706433 3 24 1791270792
unfolding squared_mod
is_two_adic = record { bounded = lit< tt; some = lit< tt; odd_part = lit< tt; multiple = refl; one = refl; minus_one = refl; outside = λ e. absurd (omega (arith, e)) }

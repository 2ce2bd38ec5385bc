-- What a number of bits is read as.
use Rattle.std.proofs.Common.{◌≡◌, ◌<◌, ◌^◌, ℕ, Bool, true, false, if◌then◌else◌, List, [], ◌∷◌, Option, None, Some, Result, Ok, Err, refl, sym, ap, ◌∙◌}
use Rattle.std.proofs.lemmas.Bool.{lt-ltb, ltb-true}
use Rattle.std.specs.Prelude.{◌&&◌, nat_lt}
use Rattle.std.specs.Char.{digit_value}
use Rattle.std.specs.List.{list_all}
use Rattle.std.specs.Result.{OkIff, result_ok}
use Rattle.std.specs.Str.Parse.{AllDigits, IsNumeral, ParsesUnsigned, digits_value, without_leading_plus}
use Rattle.stark_cli.specs.Arguments.{bits_of, is_numeral}

both : (a b : Bool) → (a && b) ≡ true → (a ≡ true) × (b ≡ true)
both true b e = (refl, e)
both false b e = absurd (let clash : false ≡ true = e in cc)

both_back : (a b : Bool) → a ≡ true → b ≡ true → (a && b) ≡ true
both_back a b first second = rw (first, second) refl

all_digits : (digits : List ℕ) → list_all (λ d. nat_lt (digit_value d) 10) digits ≡ true → AllDigits 10 digits
all_digits [] e = tt
all_digits (d ∷ digits) e = let parts = both _ _ e in (ltb-true _ _ parts.0, all_digits digits parts.1)

all_digits_back : (digits : List ℕ) → AllDigits 10 digits → list_all (λ d. nat_lt (digit_value d) 10) digits ≡ true
all_digits_back [] all = refl
all_digits_back (d ∷ digits) all = both_back _ _ (lt-ltb (digit_value d) 10 all.0) (all_digits_back digits all.1)

-- What is read where a test passes.
tested : {E : Type 0} (P : Type 0) (n : ℕ) (b : Bool) (r : Result ℕ E) → (b ≡ true → P) → (P → b ≡ true) → OkIff r P n → result_ok r ≡ (if b then Some n else None)
tested P n true (Ok x) passes back read = ap Some read.1
tested P n false (Ok x) passes back read = absurd (let clash : false ≡ true = back read.0 in cc)
tested P n true (Err e) passes back read = absurd (read (passes refl))
tested P n false (Err e) passes back read = refl

pub bits_are : {E : Type 0} (w : List ℕ) (r : Result ℕ E) → ParsesUnsigned 64 10 w r → result_ok r ≡ bits_of w
unfolding bits_of
bits_are w r read =
    let digits = without_leading_plus w in
    tested _ (digits_value 10 digits) (is_numeral digits && nat_lt (digits_value 10 digits) (2 ^ 64)) r
    (λ e. let parts = both _ _ e in let numeral = both _ _ parts.0 in ((ltb-true _ _ numeral.0, all_digits digits numeral.1), ltb-true _ _ parts.1))
    (λ h. both_back _ _ (both_back _ _ (lt-ltb _ _ h.0.0) (all_digits_back digits h.0.1)) (lt-ltb _ _ h.1)) read

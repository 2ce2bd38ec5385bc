-- What the lexer makes of spaces, commas, brackets and whole numbers at the front of a text.
use Rattle.std.proofs.Common.{◌≡◌, ℕ, ◌<◌, ◌^◌, true, ◌==◌, List, [], ◌∷◌, ◌++◌, length, take, drop, get_or, decimal, refl, sym, ap, ap₂, ◌∙◌, subst, inl, inr, arith}
use Rattle.std.proofs.lemmas.Bool.{eqb-true, or_cases}
use Rattle.std.proofs.lemmas.Fmt.{decimal-digits_value}
use Rattle.std.proofs.lemmas.List.{take-append-drop}
use Rattle.std.proofs.lemmas.Str.Parse.{numerals_by_value, tells_digits}
use Rattle.std.specs.Str.Parse.{AllDigits, digits_value}
use Rattle.json.specs.Token.{begin_array, end_array, number}
use Rattle.json.specs.Word.{is_space, ends_word}
use Rattle.json.specs.Lex.{Place, fresh, after_value, after_comma, may_begin, may_close, between, lex, punctuate, token}
use Rattle.json.proofs.Printed.Decimals.{IsNumber-decimal}
use Rattle.json.proofs.Printed.Numbers.{lex-number}

pub space_passed : (x : ℕ) (xs : List ℕ) → is_space x ≡ true → lex between (x ∷ xs) ≡ lex between xs
unfolding lex
space_passed x xs h =
    elim (or_cases _ (x == 13) h) [
      | inl a ↦ elim (or_cases _ (x == 10) a) [
        | inl b ↦ elim (or_cases (x == 32) (x == 9) b) [ inl d ↦ at 32 d refl | inr d ↦ at 9 d refl ]
        | inr b ↦ at 10 b refl
      ]
      | inr a ↦ at 13 a refl
    ]
  where
    at : (y : ℕ) → (x == y) ≡ true → lex between (y ∷ xs) ≡ lex between xs → lex between (x ∷ xs) ≡ lex between xs
    at y e k = subst (λ z. lex between (z ∷ xs) ≡ lex between xs) (sym (eqb-true x y e)) k

pub comma_passed : (xs : List ℕ) → punctuate after_value (lex between (44 ∷ xs)) ≡ punctuate after_comma (lex between xs)
unfolding lex punctuate
comma_passed xs = refl

pub opened : (p : Place) (xs : List ℕ) → may_begin p ≡ true → punctuate p (lex between (91 ∷ xs)) ≡ begin_array ∷ punctuate fresh (lex between xs)
unfolding lex punctuate
opened fresh xs h = refl
opened after_value xs h = absurd (cc)
opened after_comma xs h = refl
opened Place.after_key xs h = absurd (cc)

pub closed : (p : Place) (xs : List ℕ) → may_close p ≡ true → punctuate p (lex between (93 ∷ xs)) ≡ end_array ∷ punctuate after_value (lex between xs)
unfolding lex punctuate
closed fresh xs h = refl
closed after_value xs h = refl
closed after_comma xs h = absurd (cc)
closed Place.after_key xs h = absurd (cc)

pub number_passed : (p : Place) (s text rest : List ℕ) → may_begin p ≡ true → lex between text ≡ token (number s) ∷ lex between rest
    → punctuate p (lex between text) ≡ number s ∷ punctuate after_value (lex between rest)
unfolding punctuate
number_passed fresh s text rest h e = ap (punctuate fresh) e
number_passed after_value s text rest h e = absurd (cc)
number_passed after_comma s text rest h e = ap (punctuate after_comma) e
number_passed Place.after_key s text rest h e = absurd (cc)

pub at_end : (p : Place) (text : List ℕ) → may_close p ≡ true → length text ≡ 0 → punctuate p (lex between text) ≡ []
unfolding lex punctuate
at_end fresh [] h e = refl
at_end after_value [] h e = refl
at_end after_comma [] h e = absurd (cc)
at_end Place.after_key [] h e = absurd (cc)
at_end p (x ∷ xs) h e = absurd (omega arith)

-- digits with no leading zero, before the end of a word, are the number that they write
pub number_lexed : (n at : ℕ) (text ds rest : List ℕ) → ds ≡ take at text → rest ≡ drop at text → AllDigits 10 (take at text) → n ≡ digits_value 10 (take at text) → n < 2 ^ 64
    → 0 < length ds → (get_or ds 0 0 ≡ 48 → length ds ≡ 1) → ends_word rest ≡ true → lex between text ≡ token (number (decimal n)) ∷ lex between rest
number_lexed n at text ds rest front back digits value small some lead ended =
    let worth : n ≡ digits_value 10 ds = value ∙ ap (digits_value 10) (sym front) in
    let written : decimal n ≡ ds =
    ap decimal worth ∙ decimal-digits_value (numerals_by_value (AllDigits 10) tells_digits) ds (subst (AllDigits 10) (sym front) digits) some lead (omega arith) in
    let whole : decimal n ++ rest ≡ text = ap₂ (λ s t. s ++ t) (written ∙ front) back ∙ take-append-drop at text in
    ap (lex between) (sym whole) ∙ lex-number (decimal n) rest (IsNumber-decimal n small) ended

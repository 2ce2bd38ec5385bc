-- A line feed after a JSON text changes none of its tokens.
use Rattle.std.proofs.Common.{◌≡◌, ◌∙◌, arith, ap, refl, sym, subst, ℕ, Bool, true, false, List, [], ◌∷◌, ◌++◌, Option, None, Some, cond, ◌&&◌, ◌==◌, ◌+◌, ◌*◌}
use Rattle.std.specs.Prelude.{option_and_then}
use Rattle.std.specs.Char.{is_digit, digit_value, encode_utf8}
use Rattle.json.specs.Ascii as ascii
use Rattle.std.specs.Prelude.{◌-◌, ◌≤◌, option_map, length, take, drop, nat_eq, ◌||◌, zero, suc}
use Rattle.std.specs.List.{prefix_len, starts_with}
use lib.Pointwise.{pointwise}
use Rattle.std.specs.Char.{is_ascii_digit}
use Rattle.json.specs.Token.{Token, number, boolean, null, bad}
use Rattle.json.specs.Word.{after_digits, after_exponent, after_fraction, after_minus, after_number, after_sign, after_whole, ends_word, literal, number_before, word}
use Rattle.json.specs.Lex.{Class, Lexeme, Mode, between, in_escape, in_string, in_word, quote, backslash, operator, space, other, class, lex, lex_byte, operator_lexeme, punctuate, token, string_token, fresh, tokens}
use Rattle.json.specs.Text.{Within, plain, after_backslash, after_u, after_high, code_unit, content, short_escape, prepend, is_high_surrogate, is_low_surrogate, surrogate_pair}

-- with a line feed at the end
abbrev pub line : List ℕ → List ℕ
line s = s ++ 10 ∷ []

-- a choice between two that are the same
same_both : {A : Type 0} (b : Bool) (x : A) → cond b x x ≡ x
same_both true x = refl
same_both false x = refl

and_false : (b : Bool) → (b && false) ≡ false
and_false true = refl
and_false false = refl

-- A line feed is no digit.
no_unit : (a b c : ℕ) → code_unit a b c 10 ≡ None
unfolding code_unit
no_unit a b c = ap (λ t. cond t (Some (digit_value a * 4096 + digit_value b * 256 + digit_value c * 16 + digit_value 10)) None) (and_false (is_digit a 16 && is_digit b 16 && is_digit c 16))

pub content_line : (w : Within) (s : List ℕ) → content w (line s) ≡ content w s
unfolding content short_escape
content_line plain [] = refl
content_line plain (x ∷ xs) = rw (content_line after_backslash xs, content_line plain xs) refl
content_line after_backslash [] = refl
content_line after_backslash (x ∷ xs) = rw (content_line after_u xs, content_line plain xs) refl
content_line after_u [] = refl
content_line after_u (a ∷ []) = refl
content_line after_u (a ∷ b ∷ []) = refl
content_line after_u (a ∷ b ∷ c ∷ []) =
    ap (option_and_then (λ u. cond (is_high_surrogate u) (content (after_high u) []) (cond (is_low_surrogate u) None (prepend (encode_utf8 u) (content plain []))))) (no_unit a b c)
content_line after_u (a ∷ b ∷ c ∷ d ∷ xs) =
    ap (λ (next : ℕ → Option (List ℕ)). option_and_then (λ u. cond (is_high_surrogate u) (next u) (cond (is_low_surrogate u) None (prepend (encode_utf8 u) (content plain (line xs))))) (code_unit a b c d)) (λ i u. content_line (after_high u) xs i)
    ∙ ap (λ rest. option_and_then (λ u. cond (is_high_surrogate u) (content (after_high u) xs) (cond (is_low_surrogate u) None (prepend (encode_utf8 u) rest))) (code_unit a b c d)) (content_line plain xs)
content_line (after_high h) [] = refl
content_line (after_high h) (s ∷ []) = refl
content_line (after_high h) (s ∷ u ∷ []) = refl
content_line (after_high h) (s ∷ u ∷ a ∷ []) = refl
content_line (after_high h) (s ∷ u ∷ a ∷ b ∷ []) = refl
content_line (after_high h) (s ∷ u ∷ a ∷ b ∷ c ∷ []) =
    ap (λ unit. cond ((s == ascii.backslash) && (u == ascii.lower_u)) (option_and_then (λ l. cond (is_low_surrogate l) (prepend (encode_utf8 (surrogate_pair h l)) (content plain [])) None) unit) None) (no_unit a b c)
    ∙ same_both ((s == ascii.backslash) && (u == ascii.lower_u)) None
content_line (after_high h) (s ∷ u ∷ a ∷ b ∷ c ∷ d ∷ xs) =
    ap (λ rest. cond ((s == ascii.backslash) && (u == ascii.lower_u)) (option_and_then (λ l. cond (is_low_surrogate l) (prepend (encode_utf8 (surrogate_pair h l)) rest) None) (code_unit a b c d)) None) (content_line plain xs)

-- ---- words

map_cond : {A B : Type 0} (f : A → B) (b : Bool) (x y : A) → f (cond b x y) ≡ cond b (f x) (f y)
map_cond f true x y = refl
map_cond f false x y = refl

ends_line : (t : List ℕ) → ends_word (line t) ≡ ends_word t
ends_line [] = refl
ends_line (x ∷ xs) = refl

drop_none : (n : ℕ) → ends_word (drop n []) ≡ true
drop_none zero = refl
drop_none (suc n) = refl

ends_drop : (n : ℕ) (t : List ℕ) → ends_word (drop n (line t)) ≡ ends_word (drop n t)
ends_drop zero t = ends_line t
ends_drop (suc n) [] = drop_none n
ends_drop (suc n) (x ∷ xs) = ends_drop n xs

minus_line : (t : List ℕ) → after_minus (line t) ≡ line (after_minus t)
minus_line [] = refl
minus_line (x ∷ xs) = sym (map_cond line (x == ascii.minus) xs (x ∷ xs))

sign_line : (t : List ℕ) → after_sign (line t) ≡ line (after_sign t)
sign_line [] = refl
sign_line (x ∷ xs) = sym (map_cond line ((x == ascii.minus) || (x == ascii.plus)) xs (x ∷ xs))

digits_long : (t : List ℕ) → prefix_len is_ascii_digit (line t) ≡ prefix_len is_ascii_digit t
digits_long [] = refl
digits_long (x ∷ xs) = rw (digits_long xs) refl

drop_digit : (b : Bool) (p x : ℕ) (xs : List ℕ) → drop p (line xs) ≡ line (drop p xs) → drop (cond b (1 + p) 0) (line (x ∷ xs)) ≡ line (drop (cond b (1 + p) 0) (x ∷ xs))
drop_digit true p x xs same = let next : suc p ≡ 1 + p = omega arith in subst (λ n. drop n (x ∷ line xs) ≡ line (drop n (x ∷ xs))) next same
drop_digit false p x xs same = refl

drop_digits : (t : List ℕ) → drop (prefix_len is_ascii_digit t) (line t) ≡ line (drop (prefix_len is_ascii_digit t) t)
drop_digits [] = refl
drop_digits (x ∷ xs) = drop_digit (is_ascii_digit x) (prefix_len is_ascii_digit xs) x xs (drop_digits xs)

digits_line : (t : List ℕ) → after_digits (line t) ≡ option_map line (after_digits t)
digits_line t =
    ap (λ n. cond (n == 0) None (Some (drop n (line t)))) (digits_long t) ∙ ap (λ r. cond (prefix_len is_ascii_digit t == 0) None (Some r)) (drop_digits t)
    ∙ sym (map_cond (option_map line) (prefix_len is_ascii_digit t == 0) None (Some (drop (prefix_len is_ascii_digit t) t)))

whole_line : (t : List ℕ) → after_whole (line t) ≡ option_map line (after_whole t)
whole_line [] = refl
whole_line (x ∷ xs) = ap (λ r. cond (x == ascii.zero) (Some (line xs)) r) (digits_line (x ∷ xs)) ∙ sym (map_cond (option_map line) (x == ascii.zero) (Some xs) (after_digits (x ∷ xs)))

fraction_line : (t : List ℕ) → after_fraction (line t) ≡ option_map line (after_fraction t)
fraction_line [] = refl
fraction_line (x ∷ xs) = ap (λ r. cond (x == ascii.dot) r (Some (line (x ∷ xs)))) (digits_line xs) ∙ sym (map_cond (option_map line) (x == ascii.dot) (after_digits xs) (Some (x ∷ xs)))

exponent_line : (t : List ℕ) → after_exponent (line t) ≡ option_map line (after_exponent t)
exponent_line [] = refl
exponent_line (x ∷ xs) =
    let is_e = (x == ascii.lower_e) || (x == ascii.upper_e) in
    ap (λ r. cond is_e r (Some (line (x ∷ xs)))) (ap after_digits (sign_line xs) ∙ digits_line (after_sign xs)) ∙ sym (map_cond (option_map line) is_e (after_digits (after_sign xs)) (Some (x ∷ xs)))

then_line : (f : List ℕ → Option (List ℕ)) → ((t : List ℕ) → f (line t) ≡ option_map line (f t)) → (o : Option (List ℕ)) → option_and_then f (option_map line o) ≡ option_map line (option_and_then f o)
then_line f each None = refl
then_line f each (Some t) = each t

number_line : (t : List ℕ) → after_number (line t) ≡ option_map line (after_number t)
unfolding after_number
number_line t =
    ap (λ r. option_and_then after_exponent (option_and_then after_fraction (after_whole r))) (minus_line t)
    ∙ ap (λ r. option_and_then after_exponent (option_and_then after_fraction r)) (whole_line (after_minus t))
    ∙ ap (λ r. option_and_then after_exponent r) (then_line after_fraction fraction_line (after_whole (after_minus t)))
    ∙ then_line after_exponent exponent_line (option_and_then after_fraction (after_whole (after_minus t)))

take_line : (n : ℕ) (t : List ℕ) → n ≤ length t → take n (line t) ≡ take n t
take_line zero t within = refl
take_line (suc n) [] within = absurd (omega (arith, within))
take_line (suc n) (x ∷ xs) within = ap (λ r. x ∷ r) (take_line n xs (omega (arith, within)))

line_long : (t : List ℕ) → length (line t) ≡ suc (length t)
line_long [] = refl
line_long (x ∷ xs) = ap suc (line_long xs)

before_line : (t : List ℕ) (o : Option (List ℕ)) → number_before (line t) (option_map line o) ≡ number_before t o
before_line t None = refl
before_line t (Some rest) =
    let counted : length (line t) - length (line rest) ≡ length t - length rest = omega (arith, line_long t, line_long rest) in
    ap (λ b. cond b (number (take (length (line t) - length (line rest)) (line t))) bad) (ends_line rest)
    ∙ ap (λ s. cond (ends_word rest) (number s) bad) (ap (λ n. take n (line t)) counted ∙ take_line (length t - length rest) t (omega arith))

literal_line : (name : List ℕ) (named : Token) (t : List ℕ) → starts_with nat_eq (line t) name ≡ starts_with nat_eq t name → literal name named (line t) ≡ literal name named t
literal_line name named t same =
    ap (λ b. cond (b && ends_word (drop (length name) (line t))) named bad) same ∙ ap (λ b. cond (starts_with nat_eq t name && b) named bad) (ends_drop (length name) t)

-- A name without a line feed.
abbrev HasNoFeed : List ℕ → Type 0
HasNoFeed [] = Unit {0}
HasNoFeed (c ∷ cs) = (nat_eq c 10 ≡ false) × HasNoFeed cs

starts_line : (name t : List ℕ) → HasNoFeed name → starts_with nat_eq (line t) name ≡ starts_with nat_eq t name
starts_line [] t none = refl
starts_line (c ∷ cs) [] none = ap (λ b. b && pointwise nat_eq cs (take (length cs) [])) none.0
starts_line (c ∷ cs) (x ∷ xs) none = ap (λ r. nat_eq c x && r) (starts_line cs xs none.1)

word_line : (x : ℕ) (xs : List ℕ) → word (line (x ∷ xs)) ≡ word (x ∷ xs)
unfolding word
word_line x xs =
    let t = x ∷ xs in
    let true_is = literal_line ascii.true_text (boolean true) t (starts_line ascii.true_text t (refl, (refl, (refl, (refl, tt))))) in
    let false_is = literal_line ascii.false_text (boolean false) t (starts_line ascii.false_text t (refl, (refl, (refl, (refl, (refl, tt)))))) in
    let null_is = literal_line ascii.null_text null t (starts_line ascii.null_text t (refl, (refl, (refl, (refl, tt))))) in
    let number_is = ap (λ o. number_before (line t) o) (number_line t) ∙ before_line t (after_number t) in
    rw (true_is, false_is, null_is, number_is) refl

-- ---- lexemes

-- One byte's lexeme, with what follows it.
byte_line : (m : Mode) (c : Class) (x : ℕ) (xs : List ℕ) (k k' : Mode → List Lexeme) → ((next : Mode) → k next ≡ k' next) → lex_byte m c x (line xs) k ≡ lex_byte m c x xs k'
byte_line between quote x xs k k' same = ap (λ s. token (string_token s) ∷ k in_string) (content_line plain xs) ∙ ap (λ r. token (string_token (content plain xs)) ∷ r) (same in_string)
byte_line between backslash x xs k k' same = ap (λ r. token bad ∷ r) (same in_word)
byte_line between operator x xs k k' same = ap (λ r. operator_lexeme x ∷ r) (same between)
byte_line between space x xs k k' same = same between
byte_line between other x xs k k' same = ap (λ w. token w ∷ k in_word) (word_line x xs) ∙ ap (λ r. token (word (x ∷ xs)) ∷ r) (same in_word)
byte_line in_word quote x xs k k' same = same in_word
byte_line in_word backslash x xs k k' same = same in_word
byte_line in_word operator x xs k k' same = ap (λ r. operator_lexeme x ∷ r) (same between)
byte_line in_word space x xs k k' same = same between
byte_line in_word other x xs k k' same = same in_word
byte_line in_string quote x xs k k' same = same between
byte_line in_string backslash x xs k k' same = same in_escape
byte_line in_string operator x xs k k' same = same in_string
byte_line in_string space x xs k k' same = same in_string
byte_line in_string other x xs k k' same = same in_string
byte_line in_escape c x xs k k' same = same in_string

lex_line : (m : Mode) (s : List ℕ) → lex m (line s) ≡ lex m s
unfolding lex
lex_line between [] = refl
lex_line in_word [] = refl
lex_line in_string [] = refl
lex_line in_escape [] = refl
lex_line m (x ∷ xs) = byte_line m (class x) x xs (λ next. lex next (line xs)) (λ next. lex next xs) (λ next. lex_line next xs)

pub tokens_line : (s : List ℕ) → tokens (line s) ≡ tokens s
tokens_line s = ap (λ ls. punctuate fresh ls) (lex_line between s)

-- The tokens of a text: at each place the longest that stands there.
use Rattle.std.specs.Prelude.{ℕ, zero, suc, ◌+◌, ◌-◌, ◌*◌, ◌^◌, Bool, true, false, ◌==◌, ◌&&◌, ◌||◌, not, nat_lt, if◌then◌else◌, List, [], ◌∷◌, take, Option, Some, None, option_map, Result, Ok, Err, slice_index}
use Rattle.std.specs.List.{prefix_len}
use Rattle.std.specs.Char.{is_ascii_alphabetic, is_ascii_alphanumeric, is_ascii_digit}
use Rattle.stark_language.specs.Faults.{◌>>=◌, with_front}
use Rattle.stark_language.specs.declared.fault.Fault.{Fault}
use Rattle.stark_language.specs.declared.fault.FaultKind.{FaultKind}
use Rattle.stark_language.specs.declared.fault.FaultKind.TheVariants.{UnknownCharacter, PrimeWithoutName, NumberTooLarge}
use Rattle.stark_language.specs.declared.token.Symbol.{Symbol}
use Rattle.stark_language.specs.declared.token.Symbol.TheVariants.{Comma, Colon, Equals, Plus, Minus, Times, Power, To, OpenParenthesis, CloseParenthesis, OpenBracket, CloseBracket}
use Rattle.stark_language.specs.declared.token.Token.{Token as CodeToken}
use Rattle.stark_language.specs.declared.token.Token.TheVariants as code
use Rattle.stark_language.specs.declared.token.Lexeme.{Lexeme as CodeLexeme}
use Rattle.stark_language.specs.declared.lexer.Class.{Class}
use Rattle.stark_language.specs.declared.lexer.Class.TheVariants.{NamePart, Digit, Comment}
use Rattle.stark_language.specs.declared.lexer.Front.{Front as CodeFront}

-- A token, with its name where it is one.
pub data Token : Type 0 where
  name : List ℕ → Token
  next : List ℕ → Token
  number : ℕ → Token
  symbol : Symbol → Token
  end : Token

-- A token, and how many bytes of the text stand before it.
pub record Lexeme : Type 0 where
  pub token : Token
  pub at : ℕ

abbrev pub token_view : CodeToken → Token
token_view (code.Name text) = name text.now
token_view (code.Next text) = next text.now
token_view (code.Number n) = number n
token_view (code.Symbol s) = symbol s
token_view code.End = end

abbrev pub lexeme_view : CodeLexeme → Lexeme
lexeme_view l = record { token = token_view l.token; at = l.at }

-- ---- classes of bytes

-- a space, a tab or a carriage return
abbrev pub is_blank : ℕ → Bool
is_blank byte = (byte == 32) || (byte == 9) || (byte == 13)

-- a letter or `_`
abbrev pub is_name_start : ℕ → Bool
is_name_start byte = is_ascii_alphabetic byte || (byte == 95)

-- Whether a byte goes on with a name, with digits or with a comment.
abbrev pub belongs : Class → ℕ → Bool
belongs NamePart byte = is_ascii_alphanumeric byte || (byte == 95)
belongs Digit byte = is_ascii_digit byte
belongs Comment byte = not (byte == 10)

-- the sign that is a byte of its own
abbrev pub symbol_of : ℕ → Option Symbol
symbol_of byte =
    if byte == 44 then Some Comma else if byte == 58 then Some Colon else if byte == 61 then Some Equals
    else if byte == 43 then Some Plus else if byte == 45 then Some Minus else if byte == 42 then Some Times else if byte == 94 then Some Power
    else if byte == 40 then Some OpenParenthesis else if byte == 41 then Some CloseParenthesis
    else if byte == 91 then Some OpenBracket else if byte == 93 then Some CloseBracket else None

-- ---- the front of a text

-- the number that decimal digits write, after those that write n
abbrev pub whole_after : ℕ → List ℕ → ℕ
whole_after n [] = n
whole_after n (digit ∷ digits) = whole_after (10 * n + (digit - 48)) digits

-- the number that decimal digits write, if 64 bits hold it
abbrev pub whole_of : List ℕ → Option ℕ
whole_of digits = if nat_lt (whole_after 0 digits) (2 ^ 64) then Some (whole_after 0 digits) else None

-- What stands at the front of a text: a token, or none, and how many bytes it has.
pub record Front : Type 0 where
  pub token : Option Token
  pub length : ℕ

abbrev pub front_view : CodeFront → Front
front_view f = record { token = option_map token_view f.token; length = f.length }

-- nothing, of this length
abbrev pub passed : ℕ → Result Front FaultKind
passed n = Ok (record { token = None; length = n })

-- a token of this length
abbrev pub taken : Token → ℕ → Result Front FaultKind
taken t n = Ok (record { token = Some t; length = n })

-- A name of n bytes at the front of a text, and a prime that follows it at once.
abbrev pub name_front : ℕ → List ℕ → Result Front FaultKind
name_front n text = if slice_index text n == 39 then taken (next (take n text)) (n + 1) else taken (name (take n text)) n

-- The number that the first n bytes of a text write.
abbrev pub number_front : ℕ → Option ℕ → Result Front FaultKind
number_front n (Some whole) = taken (number whole) n
number_front n None = Err NumberTooLarge

-- A sign, by the first two bytes.
abbrev pub symbol_front : ℕ → ℕ → Option Symbol → Result Front FaultKind
symbol_front first second (Some s) = taken (symbol s) 1
symbol_front first second None =
    if (first == 46) && (second == 46) then taken (symbol To) 2 else if first == 39 then Err PrimeWithoutName else Err UnknownCharacter

-- What stands at the front of a text that isn't empty, or what is wrong there.
unfoldable pub front_of : List ℕ → Result Front FaultKind
front_of text =
    let first = slice_index text 0 in
    if is_blank first then passed 1
    else if first == 10 then taken end 1
    else if first == 35 then passed (prefix_len (belongs Comment) text)
    else if is_name_start first then name_front (prefix_len (belongs NamePart) text) text
    else if is_ascii_digit first then number_front (prefix_len (belongs Digit) text) (whole_of (take (prefix_len (belongs Digit) text) text))
    else symbol_front first (slice_index text 1) (symbol_of first)

-- ---- the whole text

-- the lexeme of a token at a place, where there is one
abbrev pub lexeme_at : ℕ → Option Token → List Lexeme
lexeme_at at None = []
lexeme_at at (Some t) = record { token = t; at = at } ∷ []

-- The bytes of what has begun are passed, and what begins after them stands at its place.
abbrev pub lexemes_step : ℕ → ℕ → Result Front FaultKind → (ℕ → Result (List Lexeme) Fault) → Result (List Lexeme) Fault
lexemes_step (suc left) at front rest = rest left
lexemes_step zero at (Err kind) rest = Err (record { kind = kind; at = at })
lexemes_step zero at (Ok front) rest = with_front (lexeme_at at front.token) (rest (front.length - 1))

-- The lexemes of a text from a place on, whose first bytes, as many as are left, belong to what stands before.
unfoldable pub lexemes_from : ℕ → ℕ → List ℕ → Result (List Lexeme) Fault
lexemes_from left at [] = Ok (record { token = end; at = at } ∷ [])
lexemes_from left at (byte ∷ bytes) = lexemes_step left at (front_of (byte ∷ bytes)) (λ more. lexemes_from more (at + 1) bytes)

-- ---- which ends of lines end something

-- whether what follows goes on with what this token has begun
abbrev pub goes_on : Token → Bool
goes_on (symbol Comma) = true
goes_on (symbol Colon) = true
goes_on (symbol Equals) = true
goes_on (symbol Plus) = true
goes_on (symbol Minus) = true
goes_on (symbol Times) = true
goes_on (symbol Power) = true
goes_on (symbol To) = true
goes_on (symbol OpenParenthesis) = true
goes_on (symbol CloseParenthesis) = false
goes_on (symbol OpenBracket) = true
goes_on (symbol CloseBracket) = false
goes_on (name text) = false
goes_on (next text) = false
goes_on (number n) = false
goes_on end = false

abbrev pub is_end : Token → Bool
is_end (name text) = false
is_end (next text) = false
is_end (number n) = false
is_end (symbol s) = false
is_end end = true

-- how many brackets are open after a token, where as many were before it
abbrev pub depth_after : ℕ → Token → ℕ
depth_after depth (symbol OpenParenthesis) = depth + 1
depth_after depth (symbol OpenBracket) = depth + 1
depth_after depth (symbol CloseParenthesis) = depth - 1
depth_after depth (symbol CloseBracket) = depth - 1
depth_after depth (symbol Comma) = depth
depth_after depth (symbol Colon) = depth
depth_after depth (symbol Equals) = depth
depth_after depth (symbol Plus) = depth
depth_after depth (symbol Minus) = depth
depth_after depth (symbol Times) = depth
depth_after depth (symbol Power) = depth
depth_after depth (symbol To) = depth
depth_after depth (name text) = depth
depth_after depth (next text) = depth
depth_after depth (number n) = depth
depth_after depth end = depth

abbrev pub is_last : List Lexeme → Bool
is_last [] = true
is_last (l ∷ ls) = false

-- Whether a token is a line's end that ends nothing: nothing stands before it, or what stands there goes on, as it does where a bracket is open. The text's end ends what stands before it.
abbrev pub is_dropped : Token → ℕ → Token → Bool → Bool
is_dropped token depth before last = is_end token && (is_end before || (not last && (nat_lt 0 depth || goes_on before)))

-- The lexemes without the ends of lines that end nothing, after the token before them and with as many open brackets.
unfoldable pub ended : ℕ → Token → List Lexeme → List Lexeme
ended depth before [] = []
ended depth before (l ∷ ls) =
    if is_dropped l.token depth before (is_last ls) then ended depth before ls
    else l ∷ ended (depth_after depth l.token) l.token ls

-- the tokens of a text, or the first place where none stands
unfoldable pub tokens_in : List ℕ → Result (List Lexeme) Fault
tokens_in text = lexemes_from 0 0 text >>= λ ls. Ok (ended 0 end ls)

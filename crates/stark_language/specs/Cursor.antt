-- Single tokens at the front of others.
use Rattle.std.specs.Prelude.{ℕ, Bool, false, ◌==◌, if◌then◌else◌, List, [], ◌∷◌, Option, Some, None, Result, Ok}
use Rattle.std.specs.Str.{bytes_eq}
use Rattle.stark_language.specs.Faults.{fault_at}
use Rattle.stark_language.specs.Tokens.{Lexeme, Token, name, next, number, symbol, end}
use Rattle.stark_language.specs.Expressions.{Name}
use Rattle.stark_language.specs.declared.fault.Fault.{Fault}
use Rattle.stark_language.specs.declared.fault.FaultKind.{FaultKind}
use Rattle.stark_language.specs.declared.fault.FaultKind.TheVariants.{EndExpected, NameExpected}
use Rattle.stark_language.specs.declared.token.Symbol.{Symbol}
use Rattle.stark_language.specs.declared.token.Symbol.TheVariants.{Comma, Colon, Equals, Plus, Minus, Times, Power, To, OpenParenthesis, CloseParenthesis, OpenBracket, CloseBracket}

-- a number for each sign
abbrev pub symbol_number : Symbol → ℕ
symbol_number Comma = 0
symbol_number Colon = 1
symbol_number Equals = 2
symbol_number Plus = 3
symbol_number Minus = 4
symbol_number Times = 5
symbol_number Power = 6
symbol_number To = 7
symbol_number OpenParenthesis = 8
symbol_number CloseParenthesis = 9
symbol_number OpenBracket = 10
symbol_number CloseBracket = 11

abbrev pub is_symbol : Symbol → Token → Bool
is_symbol wanted (symbol s) = symbol_number s == symbol_number wanted
is_symbol wanted (name text) = false
is_symbol wanted (next text) = false
is_symbol wanted (number n) = false
is_symbol wanted end = false

abbrev pub is_word : List ℕ → Token → Bool
is_word word (name text) = bytes_eq text word
is_word word (next text) = false
is_word word (number n) = false
is_word word (symbol s) = false
is_word word end = false

-- the first token; an end where there is none
unfoldable pub first_of : List Lexeme → Lexeme
first_of [] = record { token = end; at = 0 }
first_of (l ∷ ls) = l

-- the tokens after the first
unfoldable pub rest_of : List Lexeme → List Lexeme
rest_of [] = []
rest_of (l ∷ ls) = ls

-- the tokens after this sign, where it is the first
unfoldable pub passed : Symbol → List Lexeme → Option (List Lexeme)
passed wanted ls = if is_symbol wanted (first_of ls).token then Some (rest_of ls) else None

abbrev pub expected : FaultKind → ℕ → Option (List Lexeme) → Result (List Lexeme) Fault
expected kind at (Some rest) = Ok rest
expected kind at None = fault_at kind at

-- the tokens after this sign, which is to be the first
unfoldable pub expect : Symbol → FaultKind → List Lexeme → Result (List Lexeme) Fault
expect wanted kind ls = expected kind (first_of ls).at (passed wanted ls)

abbrev pub past_end_token : Token → ℕ → List Lexeme → Result (List Lexeme) Fault
past_end_token end at rest = Ok rest
past_end_token (name text) at rest = fault_at EndExpected at
past_end_token (next text) at rest = fault_at EndExpected at
past_end_token (number n) at rest = fault_at EndExpected at
past_end_token (symbol s) at rest = fault_at EndExpected at

-- the tokens after an end, which is to be the first
unfoldable pub past_end : List Lexeme → Result (List Lexeme) Fault
past_end ls = past_end_token (first_of ls).token (first_of ls).at (rest_of ls)

abbrev pub name_of_token : Token → ℕ → List Lexeme → Result (Name × List Lexeme) Fault
name_of_token (name text) at rest = Ok (record { text = text; at = at }, rest)
name_of_token (next text) at rest = fault_at NameExpected at
name_of_token (number n) at rest = fault_at NameExpected at
name_of_token (symbol s) at rest = fault_at NameExpected at
name_of_token end at rest = fault_at NameExpected at

-- the name that is the first token, and the tokens after it
unfoldable pub name_at : List Lexeme → Result (Name × List Lexeme) Fault
name_at ls = name_of_token (first_of ls).token (first_of ls).at (rest_of ls)

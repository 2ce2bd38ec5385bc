-- The lines of a text: what their tokens say.
use Rattle.std.specs.Prelude.{ℕ, if◌then◌else◌, List, [], ◌∷◌, ◌++◌, length, map, Option, Some, None, Result, Ok, codes}
use Rattle.stark_language.specs.Cursor.{expect, first_of, is_word, name_at, passed, past_end, rest_of}
use Rattle.stark_language.specs.Expressions.{Name, Step, expression_at, multiply, name_view, step_view}
use Rattle.stark_language.specs.Faults.{◌>>=◌, ahead, fault_at, many}
use Rattle.stark_language.specs.Lists.{element_at, list_at, names_at}
use Rattle.stark_language.specs.Tokens.{Lexeme, Token, name, next, number, symbol, end}
use Rattle.stark_language.specs.Words.{word_of}
use Rattle.stark_language.specs.declared.fault.Fault.{Fault}
use Rattle.stark_language.specs.declared.fault.FaultKind.TheVariants.{ColonExpected, EndExpected, EqualsExpected, UnknownWord, ValueExpected}
use Rattle.stark_language.specs.declared.token.Symbol.TheVariants.{Comma, Colon, Equals}
use Rattle.stark_language.specs.declared.tree.Element.{Element}
use Rattle.stark_language.specs.declared.tree.Item.{Item}
use Rattle.stark_language.specs.declared.tree.Line.{Line as CodeLine}
use Rattle.stark_language.specs.declared.tree.Line.TheVariants as code
use Rattle.stark_language.specs.declared.tree.Member.{Member}
use Rattle.stark_language.specs.declared.tree.MemberValue.{MemberValue as CodeValue}
use Rattle.stark_language.specs.declared.tree.MemberValue.TheVariants as values
use Rattle.stark_language.specs.declared.word.Word.{Word}
use Rattle.stark_language.specs.declared.word.Word.TheVariants as words

-- The value of a member, with its place.
pub data MemberValue : Type 0 where
  word : Name → MemberValue
  figure : ℕ → ℕ → MemberValue

pub data Line : Type 0 where
  -- the next main columns, in this order
  columns : List Name → Line
  -- the next public value
  public_value : Name → Element → Line
  -- the next periodic column
  periodic : Name → List Item → Line
  -- the next preprocessed column
  fixed : Name → List Item → Line
  -- a name for an expression
  defined : Name → List Step → Line
  -- where the condition isn't zero both sides are equal; a condition of no steps is always met
  constraint : Name → List Step → List Step → List Step → Line
  -- a member, with the place of its name
  member : Member → ℕ → MemberValue → Line

abbrev pub value_view : CodeValue → MemberValue
value_view (values.Word n) = word (name_view n)
value_view (values.Number value at) = figure value at

abbrev pub line_view : CodeLine → Line
line_view (code.Columns names) = columns (map name_view names.items)
line_view (code.Public n value) = public_value (name_view n) value
line_view (code.Periodic n elements) = periodic (name_view n) elements.items
line_view (code.Fixed n elements) = fixed (name_view n) elements.items
line_view (code.Let n value) = defined (name_view n) (map step_view value.items)
line_view (code.Constraint n condition left right) = constraint (name_view n) (map step_view condition.items) (map step_view left.items) (map step_view right.items)
line_view (code.Member m at value) = member m at (value_view value)

-- ---- constraints

abbrev pub conditioned : Option (List Lexeme) → Result (Option (List Step × List Lexeme)) Fault
conditioned None = Ok None
conditioned (Some rest) = expression_at rest >>= λ e. Ok (Some (e.0 ++ multiply ∷ [], e.1))

-- the expression after a comma and the product with it, if a comma is next
unfoldable pub next_condition : List Lexeme → Result (Option (List Step × List Lexeme)) Fault
next_condition ls = conditioned (passed Comma ls)

-- the product of expressions with commas between
unfoldable pub conditions_at : List Lexeme → Result (List Step × List Lexeme) Fault
conditions_at ls = expression_at ls >>= λ first. ahead first.0 (many next_condition (length first.1) first.1)

-- the condition of a constraint, no steps where it has none
unfoldable pub condition_at : List Lexeme → Result (List Step × List Lexeme) Fault
condition_at ls =
    if is_word (codes "when") (first_of ls).token then (conditions_at (rest_of ls) >>= λ c. expect Colon ColonExpected c.1 >>= λ rest. Ok (c.0, rest))
    else Ok ([], ls)

-- the constraint of a name, after the colon
unfoldable pub constraint_at : Name → List Lexeme → Result (Line × List Lexeme) Fault
constraint_at n ls = condition_at ls >>= λ condition. expression_at condition.1 >>= λ left. expect Equals EqualsExpected left.1 >>= λ rest.
    expression_at rest >>= λ right. Ok (constraint n condition.0 left.0 right.0, right.1)

-- ---- lines that begin with a word

-- a name and the equals sign after it
unfoldable pub assigned_at : List Lexeme → Result (Name × List Lexeme) Fault
assigned_at ls = name_at ls >>= λ n. expect Equals EqualsExpected n.1 >>= λ rest. Ok (n.0, rest)

abbrev pub member_value : Token → ℕ → Result MemberValue Fault
member_value (name text) at = Ok (word (record { text = text; at = at }))
member_value (number value) at = Ok (figure value at)
member_value (next text) at = fault_at ValueExpected at
member_value (symbol s) at = fault_at ValueExpected at
member_value end at = fault_at ValueExpected at

-- the value of a member, whose name stands at this place
unfoldable pub member_at : Member → ℕ → List Lexeme → Result (Line × List Lexeme) Fault
member_at m place ls = member_value (first_of ls).token (first_of ls).at >>= λ value. Ok (member m place value, rest_of ls)

-- the line that begins with a word at this place, after the word
unfoldable pub word_line : Word → ℕ → List Lexeme → Result (Line × List Lexeme) Fault
word_line words.Columns place ls = names_at ls >>= λ names. Ok (columns names.0, names.1)
word_line words.Public place ls = assigned_at ls >>= λ n. element_at n.1 >>= λ value. Ok (public_value n.0 value.0, value.1)
word_line words.Periodic place ls = assigned_at ls >>= λ n. list_at n.1 >>= λ elements. Ok (periodic n.0 elements.0, elements.1)
word_line words.Fixed place ls = assigned_at ls >>= λ n. list_at n.1 >>= λ elements. Ok (fixed n.0 elements.0, elements.1)
word_line words.Let place ls = assigned_at ls >>= λ n. expression_at n.1 >>= λ value. Ok (defined n.0 value.0, value.1)
word_line (words.Member m) place ls = member_at m place ls

-- ---- all lines

abbrev pub worded : Option Word → ℕ → List Lexeme → Result (Line × List Lexeme) Fault
worded (Some w) place ls = word_line w place ls
worded None place ls = fault_at UnknownWord place

abbrev pub line_after : Name → List Lexeme → Option (List Lexeme) → Result (Line × List Lexeme) Fault
line_after n ls (Some rest) = constraint_at n rest
line_after n ls None = worded (word_of n.text) n.at ls

-- A line begins with a name: of a constraint, where a colon follows it, else it is a word of the language.
unfoldable pub line_at : List Lexeme → Result (Line × List Lexeme) Fault
line_at ls = name_at ls >>= λ n. line_after n.0 n.1 (passed Colon n.1)

-- the next line and its end, if a token is left
unfoldable pub next_line : List Lexeme → Result (Option (List Line × List Lexeme)) Fault
next_line [] = Ok None
next_line (l ∷ ls) = line_at (l ∷ ls) >>= λ read. past_end read.1 >>= λ rest. Ok (Some (read.0 ∷ [], rest))

-- the lines at the front of these tokens
unfoldable pub lines_at : List Lexeme → Result (List Line × List Lexeme) Fault
lines_at ls = many next_line (length ls) ls

abbrev pub whole_of_lines : List Line → List Lexeme → Result (List Line) Fault
whole_of_lines lines [] = Ok lines
whole_of_lines lines (l ∷ ls) = fault_at EndExpected l.at

-- the lines that tokens spell, all of the tokens; or the first fault
unfoldable pub lines_in : List Lexeme → Result (List Line) Fault
lines_in ls = lines_at ls >>= λ read. whole_of_lines read.0 read.1

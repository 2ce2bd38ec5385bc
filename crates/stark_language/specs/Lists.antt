-- Lists: of names, and of elements.
use Rattle.std.specs.Prelude.{ℕ, Bool, true, false, if◌then◌else◌, List, [], ◌∷◌, length, Option, Some, None, Result, Ok, codes}
use Rattle.stark_language.specs.Cursor.{expect, first_of, is_symbol, is_word, name_at, passed, rest_of}
use Rattle.stark_language.specs.Expressions.{Name}
use Rattle.stark_language.specs.Faults.{◌>>=◌, ahead, fault_at, many}
use Rattle.stark_language.specs.Tokens.{Lexeme, Token, name, next, number, symbol, end}
use Rattle.stark_language.specs.declared.fault.Fault.{Fault}
use Rattle.stark_language.specs.declared.fault.FaultKind.TheVariants.{ListEndExpected, NumberExpected}
use Rattle.stark_language.specs.declared.token.Symbol.TheVariants.{Comma, Minus, To, OpenBracket, CloseBracket}
use Rattle.stark_language.specs.declared.tree.Element.{Element}
use Rattle.stark_language.specs.declared.tree.Item.{Item}
use Rattle.stark_language.specs.declared.tree.Item.TheVariants.{Single, Range, Repeat}

abbrev pub sized : Bool → Token → ℕ → List Lexeme → Result (Element × List Lexeme) Fault
sized is_negative (number size) at rest = Ok (record { size = size; is_negative = is_negative; at = at }, rest)
sized is_negative (name text) at rest = fault_at NumberExpected at
sized is_negative (next text) at rest = fault_at NumberExpected at
sized is_negative (symbol s) at rest = fault_at NumberExpected at
sized is_negative end at rest = fault_at NumberExpected at

-- the whole number that is the first token, as an element
unfoldable pub sized_at : Bool → List Lexeme → Result (Element × List Lexeme) Fault
sized_at is_negative ls = sized is_negative (first_of ls).token (first_of ls).at (rest_of ls)

abbrev pub signed : List Lexeme → Option (List Lexeme) → Result (Element × List Lexeme) Fault
signed ls (Some rest) = sized_at true rest
signed ls None = sized_at false ls

-- an element: a whole number, with a minus or without
unfoldable pub element_at : List Lexeme → Result (Element × List Lexeme) Fault
element_at ls = signed ls (passed Minus ls)

abbrev pub ranged : Element → List Lexeme → Option (List Lexeme) → Result (Item × List Lexeme) Fault
ranged first ls (Some rest) = sized_at false rest >>= λ last. Ok (Range first.size last.0.size first.at, last.1)
ranged first ls None =
    if is_word (codes "x") (first_of ls).token then (element_at (rest_of ls) >>= λ element. Ok (Repeat first.size element.0, element.1))
    else Ok (Single first, ls)

-- What begins with a whole number: `2..5` are the numbers from the first to the last, `3 x 7` is an element as often as the first number says, else it is the number.
unfoldable pub item_after : Element → List Lexeme → Result (Item × List Lexeme) Fault
item_after first ls = ranged first ls (passed To ls)

-- an item of a list
unfoldable pub item_at : List Lexeme → Result (Item × List Lexeme) Fault
item_at ls = element_at ls >>= λ first. if first.0.is_negative then Ok (Single first.0, first.1) else item_after first.0 first.1

abbrev pub begins_element : Token → Bool
begins_element (number n) = true
begins_element (name text) = false
begins_element (next text) = false
begins_element (symbol s) = is_symbol Minus (symbol s)
begins_element end = false

-- the next item, if an element is next
unfoldable pub next_item : List Lexeme → Result (Option (List Item × List Lexeme)) Fault
next_item ls = if begins_element (first_of ls).token then (item_at ls >>= λ item. Ok (Some (item.0 ∷ [], item.1))) else Ok None

-- items, one at least
unfoldable pub items_at : List Lexeme → Result (List Item × List Lexeme) Fault
items_at ls = item_at ls >>= λ first. ahead (first.0 ∷ []) (many next_item (length first.1) first.1)

abbrev pub bracketed : List Lexeme → Option (List Lexeme) → Result (List Item × List Lexeme) Fault
bracketed ls None = items_at ls
bracketed ls (Some rest) = items_at rest >>= λ items. expect CloseBracket ListEndExpected items.1 >>= λ after. Ok (items.0, after)

-- a list of elements, in brackets or bare
unfoldable pub list_at : List Lexeme → Result (List Item × List Lexeme) Fault
list_at ls = bracketed ls (passed OpenBracket ls)

abbrev pub named_next : Option (List Lexeme) → Result (Option (List Name × List Lexeme)) Fault
named_next None = Ok None
named_next (Some rest) = name_at rest >>= λ name. Ok (Some (name.0 ∷ [], name.1))

-- the name after a comma, if a comma is next
unfoldable pub next_name : List Lexeme → Result (Option (List Name × List Lexeme)) Fault
next_name ls = named_next (passed Comma ls)

-- names with commas between
unfoldable pub names_at : List Lexeme → Result (List Name × List Lexeme) Fault
names_at ls = name_at ls >>= λ first. ahead (first.0 ∷ []) (many next_name (length first.1) first.1)

-- The grammar of expressions: trees of operations, how each is spelled, and its steps.
use Rattle.std.specs.Prelude.{◌≡◌, ℕ, ◌≤◌, Bool, false, List, [], ◌∷◌, ◌++◌, Result, Ok}
use Rattle.stark_language.specs.Expressions.{Name, Step, add, expression_at, multiply, negate, push_name, push_next, push_number, raise, subtract}
use Rattle.stark_language.specs.Tokens.{Lexeme, Token, end, name, next, number, symbol}
use Rattle.stark_language.specs.declared.token.Symbol.{Symbol}
use Rattle.stark_language.specs.declared.token.Symbol.TheVariants.{Times, Plus, Minus, Power, OpenParenthesis, CloseParenthesis}

-- An expression with its brackets, and the places of its tokens.
pub data Tree : Type 0 where
  whole : ℕ → ℕ → Tree
  named : Name → Tree
  following : Name → Tree
  brackets : ℕ → Tree → ℕ → Tree
  power : Tree → ℕ → ℕ → ℕ → Tree
  opposite : ℕ → Tree → Tree
  product : Tree → ℕ → Tree → Tree
  sum : Tree → ℕ → Tree → Tree
  difference : Tree → ℕ → Tree → Tree

abbrev pub sign_at : Symbol → ℕ → Lexeme
sign_at s at = record { token = symbol s; at = at }

-- the tokens that spell a tree
unfoldable pub spelled : Tree → List Lexeme
spelled (whole value at) = record { token = number value; at = at } ∷ []
spelled (named n) = record { token = name n.text; at = n.at } ∷ []
spelled (following n) = record { token = next n.text; at = n.at } ∷ []
spelled (brackets opened t closing) = sign_at OpenParenthesis opened ∷ (spelled t ++ sign_at CloseParenthesis closing ∷ [])
spelled (power t at exponent place) = spelled t ++ sign_at Power at ∷ record { token = number exponent; at = place } ∷ []
spelled (opposite at t) = sign_at Minus at ∷ spelled t
spelled (product a at b) = spelled a ++ sign_at Times at ∷ spelled b
spelled (sum a at b) = spelled a ++ sign_at Plus at ∷ spelled b
spelled (difference a at b) = spelled a ++ sign_at Minus at ∷ spelled b

-- the operations of a tree, each after what it works on
unfoldable pub steps_of : Tree → List Step
steps_of (whole value at) = push_number value at ∷ []
steps_of (named n) = push_name n ∷ []
steps_of (following n) = push_next n ∷ []
steps_of (brackets opened t closing) = steps_of t
steps_of (power t at exponent place) = steps_of t ++ raise exponent place ∷ []
steps_of (opposite at t) = steps_of t ++ negate ∷ []
steps_of (product a at b) = steps_of a ++ steps_of b ++ multiply ∷ []
steps_of (sum a at b) = steps_of a ++ steps_of b ++ add ∷ []
steps_of (difference a at b) = steps_of a ++ steps_of b ++ subtract ∷ []

-- how tightly the outermost operation of a tree binds: a sum least, a product, an opposite, a power, a single operand most
unfoldable pub level : Tree → ℕ
level (whole value at) = 4
level (named n) = 4
level (following n) = 4
level (brackets opened t closing) = 4
level (power t at exponent place) = 3
level (opposite at t) = 2
level (product a at b) = 1
level (sum a at b) = 0
level (difference a at b) = 0

-- A tree that needs no other brackets than it has: the base of a power is a single operand, an opposite is one of a power or an operand, a product has no sum in it, and sums and products are taken from the left.
unfoldable pub IsExpression : Tree → Type 0
IsExpression (whole value at) = Unit {0}
IsExpression (named n) = Unit {0}
IsExpression (following n) = Unit {0}
IsExpression (brackets opened t closing) = IsExpression t
IsExpression (power t at exponent place) = IsExpression t × (4 ≤ level t)
IsExpression (opposite at t) = IsExpression t × (3 ≤ level t)
IsExpression (product a at b) = IsExpression a × (1 ≤ level a) × IsExpression b × (2 ≤ level b)
IsExpression (sum a at b) = IsExpression a × IsExpression b × (1 ≤ level b)
IsExpression (difference a at b) = IsExpression a × IsExpression b × (1 ≤ level b)

-- No expression goes on with this token.
abbrev pub IsAfterExpression : Token → Type 0
IsAfterExpression (symbol Times) = ⊥
IsAfterExpression (symbol Plus) = ⊥
IsAfterExpression (symbol Minus) = ⊥
IsAfterExpression (symbol Power) = ⊥
IsAfterExpression other = Unit {0}

-- What spells an expression, up to a token with which none goes on, is read as its steps.
abbrev pub EachIsRead : Type 0
EachIsRead = (t : Tree) → IsExpression t → (l : Lexeme) (ls : List Lexeme) → IsAfterExpression l.token → expression_at (spelled t ++ l ∷ ls) ≡ Ok (steps_of t, l ∷ ls)

-- Expressions: what their tokens say, in postfix order.
use Rattle.std.specs.Prelude.{◌≡◌, ℕ, Bool, true, false, if◌then◌else◌, List, [], ◌∷◌, ◌++◌, map, reverse, Option, Some, None, Result, Ok, Err}
use Rattle.stark_language.specs.Faults.{Fails, ahead, fault_at}
use Rattle.stark_language.specs.Tokens.{Lexeme, Token, name, next, number, symbol, end}
use Rattle.stark_language.specs.declared.fault.Fault.{Fault}
use Rattle.stark_language.specs.declared.fault.FaultKind.TheVariants.{OperandExpected, ExponentExpected, ClosingExpected, EndExpected}
use Rattle.stark_language.specs.declared.fault.LanguageError.{LanguageError}
use Rattle.stark_language.specs.declared.token.Symbol.TheVariants.{Plus, Minus, Times, Power, OpenParenthesis, CloseParenthesis}
use Rattle.stark_language.specs.declared.tree.Name.{Name as CodeName}
use Rattle.stark_language.specs.declared.tree.Step.{Step as CodeStep}
use Rattle.stark_language.specs.declared.tree.Step.TheVariants as code
use Rattle.stark_language.specs.declared.expression.Sign.{Sign}
use Rattle.stark_language.specs.declared.expression.Sign.TheVariants as sign
use Rattle.stark_language.specs.declared.expression.Pending.{Pending}
use Rattle.stark_language.specs.declared.expression.Mode.{Mode}
use Rattle.stark_language.specs.declared.expression.Mode.TheVariants.{Operand, Atom, Exponent, Factor}
use Rattle.stark_language.specs.declared.expression.State.{State}

-- A name, and how many bytes of the text stand before it.
pub record Name : Type 0 where
  pub text : List ℕ
  pub at : ℕ

-- A step of an expression in postfix order.
pub data Step : Type 0 where
  push_number : ℕ → ℕ → Step
  push_name : Name → Step
  push_next : Name → Step
  raise : ℕ → ℕ → Step
  negate : Step
  multiply : Step
  add : Step
  subtract : Step

abbrev pub name_view : CodeName → Name
name_view n = record { text = n.text.now; at = n.at }

abbrev pub step_view : CodeStep → Step
step_view (code.Number value at) = push_number value at
step_view (code.Name n) = push_name (name_view n)
step_view (code.Next n) = push_next (name_view n)
step_view (code.Power exponent at) = raise exponent at
step_view code.Negate = negate
step_view code.Multiply = multiply
step_view code.Add = add
step_view code.Subtract = subtract

-- ---- the operations that wait

abbrev pub no_pending : Pending
no_pending = record { sum = None; product = false; negated = false }

-- a step where it is to be taken
abbrev pub push_if : Bool → Step → List Step
push_if wanted step = if wanted then step ∷ [] else []

-- what follows a product that is whole
abbrev pub after_product : Pending → List Step
after_product p = push_if p.negated negate ++ push_if p.product multiply

-- the operation of a sign before an operand
abbrev pub after_sign : Option Sign → List Step
after_sign None = []
after_sign (Some sign.Plus) = add ∷ []
after_sign (Some sign.Minus) = subtract ∷ []

-- what follows a sum that is whole
abbrev pub after_sum : Pending → List Step
after_sum p = after_product p ++ after_sign p.sum

-- ---- the tokens, one after the other

-- What a token of an expression brings: steps, and how far the reading has come then, with the operations that wait for each bracket that is open, the innermost first; or the last steps, where the expression ends before the token.
pub data Turn : Type 0 where
  goes : List Step → State → List Pending → Turn
  stops : List Step → Turn

-- what a turn brings, with these steps before it
abbrev pub with_steps : List Step → Result Turn Fault → Result Turn Fault
with_steps front (Ok (goes steps state outer)) = Ok (goes (front ++ steps) state outer)
with_steps front (Ok (stops steps)) = Ok (stops (front ++ steps))
with_steps front (Err fault) = Err fault

-- A function has made a turn: these are then the brackets that are open and the steps.
abbrev pub Turns : List Pending → List Step → Result (Option State) LanguageError → Result Turn Fault → Type 0
Turns outer steps (Ok (Some state)) turn = turn ≡ Ok (goes steps state outer)
Turns outer steps (Ok None) turn = turn ≡ Ok (stops steps)
Turns outer steps (Err e) turn = Fails e turn

-- The same of lists in memory, where the brackets that are open stand in their order: those before and those after.
abbrev pub TurnsBy : (List Pending → Result Turn Fault) → List Pending → List CodeStep → List Pending → List CodeStep → Result (Option State) LanguageError → Type 0
TurnsBy turn outer steps outer_after steps_after result = Turns (reverse outer_after) (map step_view steps_after) result (with_steps (map step_view steps) (turn (reverse outer)))

-- the step that a token is by itself, where it is an operand
abbrev pub leaf_step : ℕ → Token → Option Step
leaf_step at (number value) = Some (push_number value at)
leaf_step at (name text) = Some (push_name (record { text = text; at = at }))
leaf_step at (next text) = Some (push_next (record { text = text; at = at }))
leaf_step at (symbol s) = None
leaf_step at end = None

abbrev pub leaf_of : Lexeme → Option Step
leaf_of l = leaf_step l.at l.token

-- what may stand before an operand: one minus, opening brackets
abbrev pub opening_turn : Pending → List Pending → ℕ → Token → Result Turn Fault
opening_turn p outer at (symbol Minus) = if p.negated then fault_at OperandExpected at else Ok (goes [] (record { mode = Operand; pending = record p { negated = true } }) outer)
opening_turn p outer at (symbol OpenParenthesis) = Ok (goes [] (record { mode = Operand; pending = no_pending }) (p ∷ outer))
opening_turn p outer at other = fault_at OperandExpected at

-- an operand is a token by itself
abbrev pub leaf_turn : Pending → List Pending → Lexeme → Option Step → Result Turn Fault
leaf_turn p outer l (Some step) = Ok (goes (step ∷ []) (record { mode = Atom; pending = p }) outer)
leaf_turn p outer l None = opening_turn p outer l.at l.token

-- where an operand begins
unfoldable pub operand_turn : Pending → List Pending → Lexeme → Result Turn Fault
operand_turn p outer l = leaf_turn p outer l (leaf_of l)

abbrev pub exponent_of : Pending → List Pending → ℕ → Token → Result Turn Fault
exponent_of p outer at (number exponent) = Ok (goes (raise exponent at ∷ []) (record { mode = Factor; pending = p }) outer)
exponent_of p outer at other = fault_at ExponentExpected at

-- where an exponent stands
unfoldable pub exponent_turn : Pending → List Pending → Lexeme → Result Turn Fault
exponent_turn p outer l = exponent_of p outer l.at l.token

-- the innermost bracket closes, or the expression ends
unfoldable pub closed : Pending → List Pending → Result Turn Fault
closed p [] = Ok (stops (after_sum p))
closed p (q ∷ outer) = Ok (goes (after_sum p) (record { mode = Atom; pending = q }) outer)

-- no token of an expression: it ends here, unless a bracket is open
abbrev pub ended_at : Pending → List Pending → ℕ → Result Turn Fault
ended_at p [] at = closed p []
ended_at p (q ∷ outer) at = fault_at ClosingExpected at

abbrev pub operator_of : Pending → List Pending → ℕ → Token → Result Turn Fault
operator_of p outer at (symbol Times) = Ok (goes (after_product p) (record { mode = Operand; pending = record { sum = p.sum; product = true; negated = false } }) outer)
operator_of p outer at (symbol Plus) = Ok (goes (after_sum p) (record { mode = Operand; pending = record { sum = Some sign.Plus; product = false; negated = false } }) outer)
operator_of p outer at (symbol Minus) = Ok (goes (after_sum p) (record { mode = Operand; pending = record { sum = Some sign.Minus; product = false; negated = false } }) outer)
operator_of p outer at (symbol CloseParenthesis) = closed p outer
operator_of p outer at other = ended_at p outer at

-- what follows an operand
unfoldable pub operator_turn : Pending → List Pending → Lexeme → Result Turn Fault
operator_turn p outer l = operator_of p outer l.at l.token

abbrev pub atom_turn : Pending → List Pending → Lexeme → Token → Result Turn Fault
atom_turn p outer l (symbol Power) = Ok (goes [] (record { mode = Exponent; pending = p }) outer)
atom_turn p outer l other = operator_turn p outer l

abbrev pub mode_turn : Mode → Pending → List Pending → Lexeme → Result Turn Fault
mode_turn Operand p outer l = operand_turn p outer l
mode_turn Exponent p outer l = exponent_turn p outer l
mode_turn Atom p outer l = atom_turn p outer l l.token
mode_turn Factor p outer l = operator_turn p outer l

unfoldable pub turn : State → List Pending → Lexeme → Result Turn Fault
turn s outer l = mode_turn s.mode s.pending outer l

-- From a turn on: where it stops these tokens are left.
abbrev pub read_on : Result Turn Fault → List Lexeme → (State → List Pending → Result (List Step × List Lexeme) Fault) → Result (List Step × List Lexeme) Fault
read_on (Ok (goes steps state outer)) ls rest = ahead steps (rest state outer)
read_on (Ok (stops steps)) ls rest = Ok (steps, ls)
read_on (Err fault) ls rest = Err fault

-- The steps that are still to come, and the tokens after the expression. The tokens of a text end with an end, where each expression stops.
unfoldable pub read_from : State → List Pending → List Lexeme → Result (List Step × List Lexeme) Fault
read_from s outer [] = fault_at EndExpected 0
read_from s outer (l ∷ ls) = read_on (turn s outer l) (l ∷ ls) (λ state brackets. read_from state brackets ls)

-- the steps of the expression at the front of these tokens, and the tokens after it
abbrev pub expression_at : List Lexeme → Result (List Step × List Lexeme) Fault
expression_at ls = read_from (record { mode = Operand; pending = no_pending }) [] ls

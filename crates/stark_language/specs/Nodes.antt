-- The nodes of an AIR, as its names, numbers and operations are written one after the other.
use Rattle.std.specs.Prelude.{◌≡◌, ℕ, zero, suc, ◌+◌, ◌-◌, ◌==◌, ◌||◌, Bool, nat_lt, nat_le, if◌then◌else◌, List, [], ◌∷◌, ◌++◌, length, map, slice_get, slice_set, Option, Some, None, option_map, Result, Ok, Err, codes}
use Rattle.std.specs.Str.{bytes_eq}
use Rattle.stark_language.specs.Expressions.{Name, Step, push_number, push_name, push_next, raise, negate, multiply, add, subtract}
use Rattle.stark_language.specs.Faults.{◌>>=◌, Fails, fault_at}
use Rattle.stark_language.specs.declared.fault.Fault.{Fault}
use Rattle.stark_language.specs.declared.fault.FaultKind.TheVariants.{AboveModulus, ExponentOutOfRange, NoNextRow, OperandExpected, RepeatedName, ReservedName, TooManyNames, TooManyNumbers, UnknownName}
use Rattle.stark_language.specs.declared.fault.LanguageError.{LanguageError}
use Rattle.stark_language.specs.declared.writer.Node.{Node}
use Rattle.stark_language.specs.declared.writer.Node.TheVariants as node
use Rattle.stark_language.specs.declared.writer.Operation.{Operation}
use Rattle.stark_language.specs.declared.writer.Operation.TheVariants as operations
use Rattle.stark_language.specs.declared.writer.Value.{Value}
use Rattle.stark_language.specs.declared.writer.Value.TheVariants.{At, Leaf}
use Rattle.stark_language.specs.declared.writer.Entry.{Entry as CodeEntry}
use Rattle.stark_language.specs.declared.writer.NumberEntry.{NumberEntry}
use Rattle.stark_language.specs.declared.writer.Writer.{Writer as CodeWriter}

-- What a name stands for.
pub record Entry : Type 0 where
  pub name : List ℕ
  pub here : Value
  pub next : Option Value

-- What is written so far: the names, the numbers that have nodes, the nodes in order, and the nodes of operands that wait for their operation, in their order.
pub record Writer : Type 0 where
  pub names : List Entry
  pub numbers : List NumberEntry
  pub nodes : List Node
  pub stack : List ℕ

abbrev pub entry_view : CodeEntry → Entry
entry_view e = record { name = e.name.now; here = e.here; next = e.next }

abbrev pub writer_view : CodeWriter → Writer
writer_view w = record { names = map entry_view w.names.items; numbers = w.numbers.items; nodes = w.nodes.items; stack = w.stack.items }

-- A function has written what is to be written, and returned what that gives; or this is the fault.
abbrev pub Writes : {A : Type 0} → (Writer → Result (A × Writer) Fault) → CodeWriter → CodeWriter → Result A LanguageError → Type 0
Writes write old new (Ok x) = write (writer_view old) ≡ Ok (x, writer_view new)
Writes write old new (Err e) = Fails e (write (writer_view old))

-- how many names a text may declare, and how many numbers its expressions may have
abbrev pub most : ℕ
most = 1024

-- ---- names and numbers

abbrev pub one_more : Option ℕ → Option ℕ
one_more place = option_map (λ n. n + 1) place

-- the place of the first entry of a name
unfoldable pub place_of : List ℕ → List Entry → Option ℕ
place_of name [] = None
place_of name (e ∷ es) = if bytes_eq e.name name then Some 0 else one_more (place_of name es)

-- the node of a number, if it has one among these
unfoldable pub node_of_number : ℕ → List NumberEntry → Option ℕ
node_of_number value [] = None
node_of_number value (e ∷ es) = if e.value == value then Some e.node else node_of_number value es

-- a node behind the others, and its place
abbrev pub push_node : Node → Writer → Result (ℕ × Writer) Fault
push_node n w = Ok (length w.nodes, record w { nodes = w.nodes ++ n ∷ [] })

abbrev pub new_number : ℕ → ℕ → Writer → Result (ℕ × Writer) Fault
new_number value at w =
    if nat_le most (length w.numbers) then fault_at TooManyNumbers at
    else push_node (node.Constant (length w.numbers)) (record w { numbers = w.numbers ++ record { value = value; node = length w.nodes } ∷ [] })

abbrev pub number_found : ℕ → ℕ → Writer → Option ℕ → Result (ℕ × Writer) Fault
number_found value at w (Some n) = Ok (n, w)
number_found value at w None = new_number value at w

-- the node of a number, which is to be below the modulus: each number has one
unfoldable pub number_node : ℕ → ℕ → ℕ → Writer → Result (ℕ × Writer) Fault
number_node modulus value at w = if nat_le modulus value then fault_at AboveModulus at else number_found value at w (node_of_number value w.numbers)

-- the node of a value
unfoldable pub value_node : Value → Writer → Result (ℕ × Writer) Fault
value_node (At n) w = Ok (n, w)
value_node (Leaf leaf) w = push_node leaf w

abbrev pub entry_node : ℕ → ℕ → Writer → Option Entry → Result (ℕ × Writer) Fault
entry_node at place w None = fault_at UnknownName at
entry_node at place w (Some e) = value_node e.here w >>= λ r. Ok (r.0, record r.1 { names = slice_set r.1.names place (record e { here = At r.0 }) })

abbrev pub placed_node : ℕ → Writer → Option ℕ → Result (ℕ × Writer) Fault
placed_node at w None = fault_at UnknownName at
placed_node at w (Some place) = entry_node at place w (slice_get w.names place)

-- the node of a name in the current row: it is written where the name is read first
unfoldable pub name_node : Name → Writer → Result (ℕ × Writer) Fault
name_node n w = placed_node n.at w (place_of n.text w.names)

abbrev pub next_value : ℕ → ℕ → Writer → Entry → Option Value → Result (ℕ × Writer) Fault
next_value at place w e None = fault_at NoNextRow at
next_value at place w e (Some value) = value_node value w >>= λ r. Ok (r.0, record r.1 { names = slice_set r.1.names place (record e { next = Some (At r.0) }) })

abbrev pub entry_next : ℕ → ℕ → Writer → Option Entry → Result (ℕ × Writer) Fault
entry_next at place w None = fault_at UnknownName at
entry_next at place w (Some e) = next_value at place w e e.next

abbrev pub placed_next : ℕ → Writer → Option ℕ → Result (ℕ × Writer) Fault
placed_next at w None = fault_at UnknownName at
placed_next at w (Some place) = entry_next at place w (slice_get w.names place)

-- the node of a name in the next row, if it has one there
unfoldable pub next_node : Name → Writer → Result (ℕ × Writer) Fault
next_node n w = placed_next n.at w (place_of n.text w.names)

abbrev pub newly_declared : Name → Value → Option Value → Writer → Option ℕ → Result (Unit {0} × Writer) Fault
newly_declared n here next w (Some place) = fault_at RepeatedName n.at
newly_declared n here next w None =
    if nat_le most (length w.names) then fault_at TooManyNames n.at
    else Ok (tt, record w { names = w.names ++ record { name = n.text; here = here; next = next } ∷ [] })

-- a name that stands for this from now on
unfoldable pub declared : Name → Value → Option Value → Writer → Result (Unit {0} × Writer) Fault
declared n here next w = if bytes_eq n.text (codes "when") then fault_at ReservedName n.at else newly_declared n here next w (place_of n.text w.names)

-- ---- operations

abbrev pub last_on : ℕ → Option (ℕ × List ℕ) → Option (ℕ × List ℕ)
last_on n None = Some (n, [])
last_on n (Some r) = Some (r.0, n ∷ r.1)

-- the last of a list, and those before it
unfoldable pub last_of : List ℕ → Option (ℕ × List ℕ)
last_of [] = None
last_of (n ∷ ns) = last_on n (last_of ns)

abbrev pub popped : Writer → Option (ℕ × List ℕ) → Result (ℕ × Writer) Fault
popped w None = fault_at OperandExpected 0
popped w (Some r) = Ok (r.0, record w { stack = r.1 })

-- the operand that was pushed last
unfoldable pub pop_operand : Writer → Result (ℕ × Writer) Fault
pop_operand w = popped w (last_of w.stack)

-- an operand behind the others
abbrev pub push_operand : ℕ → Writer → Result (Unit {0} × Writer) Fault
push_operand n w = Ok (tt, record w { stack = w.stack ++ n ∷ [] })

abbrev pub operation_node : Operation → ℕ → ℕ → Node
operation_node operations.Add left right = node.Add left right
operation_node operations.Subtract left right = node.Sub left right
operation_node operations.Multiply left right = node.Mul left right

-- the operation on the last two operands
unfoldable pub binary : Operation → Writer → Result (Unit {0} × Writer) Fault
binary operation w = pop_operand w >>= λ right. pop_operand right.1 >>= λ left. push_node (operation_node operation left.0 right.0) left.1 >>= λ n. push_operand n.0 n.1

-- the opposite of the last operand
unfoldable pub negated : Writer → Result (Unit {0} × Writer) Fault
negated w = pop_operand w >>= λ operand. push_node (node.Neg operand.0) operand.1 >>= λ n. push_operand n.0 n.1

-- the product of a node with another, as often as this number says
unfoldable pub multiplied : ℕ → ℕ → ℕ → Writer → Result (ℕ × Writer) Fault
multiplied factor zero start w = Ok (start, w)
multiplied factor (suc count) start w = push_node (node.Mul start factor) w >>= λ n. multiplied factor count n.0 n.1

-- the power of the last operand
unfoldable pub powered : ℕ → ℕ → Writer → Result (Unit {0} × Writer) Fault
powered exponent at w =
    if nat_lt exponent 1 || nat_lt 32 exponent then fault_at ExponentOutOfRange at
    else (pop_operand w >>= λ operand. multiplied operand.0 (exponent - 1) operand.0 operand.1 >>= λ n. push_operand n.0 n.1)

-- ---- expressions

-- a step of an expression
unfoldable pub stepped : ℕ → Step → Writer → Result (Unit {0} × Writer) Fault
stepped modulus (push_number value at) w = number_node modulus value at w >>= λ n. push_operand n.0 n.1
stepped modulus (push_name n) w = name_node n w >>= λ r. push_operand r.0 r.1
stepped modulus (push_next n) w = next_node n w >>= λ r. push_operand r.0 r.1
stepped modulus (raise exponent at) w = powered exponent at w
stepped modulus negate w = negated w
stepped modulus multiply w = binary operations.Multiply w
stepped modulus add w = binary operations.Add w
stepped modulus subtract w = binary operations.Subtract w

-- the steps of an expression, one after the other
unfoldable pub written : ℕ → List Step → Writer → Result (Unit {0} × Writer) Fault
written modulus [] w = Ok (tt, w)
written modulus (step ∷ steps) w = stepped modulus step w >>= λ r. written modulus steps r.1

-- the node of an expression
unfoldable pub expression_node : ℕ → List Step → Writer → Result (ℕ × Writer) Fault
expression_node modulus steps w = written modulus steps w >>= λ r. pop_operand r.1

-- What a number with one more digit stands for, and constraints on a number that an expression stands for.
use Rattle.std.specs.Prelude.{ℕ}
use Rattle.stark_support.specs.Operations.{Operations}
use Rattle.stark_air.specs.Tree.{Tree, Constraint, base, difference, product}
use Rattle.stark_air.specs.Value.{Environment, value}
use Rattle.stark_machine.specs.Columns.{a, active, b, is_jump, is_less}
use Rattle.stark_machine.specs.Machine.{with_digit}

-- Of whatever tree the number stands for, the longer one stands for that with one more digit.
abbrev pub AddsDigit : {F E : Type 0} → Operations F E → (E → E → Type 0) → Environment E → (ℕ → F) → ℕ → E → E → Type 0
AddsDigit {F = F} o stands environment of_number column number longer = (before : Tree F) → stands (value o environment before) number
    → stands (value o environment (with_digit of_number before column)) longer

-- In an active row of a comparison the operands' difference is a number.
abbrev pub has_difference : {F : Type 0} → Tree F → Constraint F
has_difference number = base (product (product active is_less) (difference (difference a b) number))

-- In a row of a jump the number is 0.
abbrev pub is_zero_at_jump : {F : Type 0} → Tree F → Constraint F
is_zero_at_jump number = base (product is_jump number)

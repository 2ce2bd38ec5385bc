-- The machine's constraints.
use Rattle.std.specs.Prelude.{ℕ, zero, suc, ◌+◌, ◌-◌, List, [], ◌∷◌, ◌++◌, map}
use Rattle.std.specs.List.{range_with_len}
use Rattle.stark_air.specs.Emission.{equal, equal_on}
use Rattle.stark_air.specs.Shift.{shift}
use Rattle.stark_air.specs.Tree.{Tree, Constraint, base, constant, main_current, main_next, preprocessed_current, public_value, first_row, last_row, transition, sum, difference, product}
use Rattle.stark_machine.specs.Columns.{a, active, address, b, bit, c, cell, from_register, inverse, is_add, is_halt, is_jump, is_less, is_load, is_mul, is_store, is_sub, left, left_index, number, pc, place, register, right, right_index, target, target_index, then}
use Rattle.stark_machine.specs.Parts.{booleans, flag_index, flag_sum, one_hot, selected}

-- ---- which instruction, registers and cell a row works on

-- Where the row is active, its instruction is the one that comes next.
abbrev pub is_in_place : {F : Type 0} → Constraint F
is_in_place = base (product active (difference pc place))

-- The one that is 1 is that of the index in the program.
abbrev pub is_index : {F : Type 0} → (ℕ → F) → ℕ → ℕ → Constraint F
is_index of_number first column = equal (flag_index of_number first) (preprocessed_current column)

-- Whether the instruction writes a register, and whether it reaches a cell.
abbrev pub writes : {F : Type 0} → Tree F
writes = sum (sum (sum (sum is_add is_sub) is_mul) is_less) is_load

abbrev pub active_write : {F : Type 0} → Tree F
active_write = product active writes

abbrev pub reaches : {F : Type 0} → Tree F
reaches = sum is_load is_store

abbrev pub active_reach : {F : Type 0} → Tree F
active_reach = product active reaches

-- A register is written where the row is active and its instruction writes one: that of the index in the program.
abbrev pub writes_one : {F : Type 0} → Constraint F
writes_one = equal (flag_sum target) active_write

abbrev pub writes_target : {F : Type 0} → (ℕ → F) → Constraint F
writes_target of_number = equal (flag_index of_number target) (product active_write target_index)

-- A cell is reached where the row is active and its instruction reaches one: that of the second operand's number.
abbrev pub reaches_one : {F : Type 0} → Constraint F
reaches_one = equal (flag_sum address) active_reach

abbrev pub reaches_address : {F : Type 0} → (ℕ → F) → Constraint F
reaches_address of_number = equal (flag_index of_number address) (product active_reach b)

abbrev pub activity : {F : Type 0} → F → List (Constraint F)
activity one = map (shift 1) (booleans one 1) ++ is_in_place ∷ []

-- One register is read, of the index in the program.
abbrev pub read : {F : Type 0} → F → (ℕ → F) → ℕ → ℕ → List (Constraint F)
read one of_number first column = map (shift first) (one_hot one) ++ is_index of_number first column ∷ []

abbrev pub reads : {F : Type 0} → F → (ℕ → F) → List (Constraint F)
reads one of_number = read one of_number left left_index ++ read one of_number right right_index

abbrev pub written : {F : Type 0} → F → (ℕ → F) → List (Constraint F)
written one of_number = map (shift target) (booleans one 4) ++ writes_one ∷ writes_target of_number ∷ []

abbrev pub reached : {F : Type 0} → F → (ℕ → F) → List (Constraint F)
reached one of_number = map (shift address) (booleans one 4) ++ reaches_one ∷ reaches_address of_number ∷ []

abbrev pub choices : {F : Type 0} → F → (ℕ → F) → List (Constraint F)
choices one of_number = activity one ++ reads one of_number ++ written one of_number ++ reached one of_number

-- ---- what the instruction computes

-- The first operand is the register that is read first; the second one is a register or a number.
abbrev pub first_operand : {F : Type 0} → Constraint F
first_operand = equal a (selected left 2)

abbrev pub second_operand : {F : Type 0} → Constraint F
second_operand = equal b (sum (product from_register (selected right 2)) number)

abbrev pub operands : {F : Type 0} → List (Constraint F)
operands = first_operand ∷ second_operand ∷ []

-- The result is the sum, the difference or the product of the operands.
abbrev pub adds : {F : Type 0} → Constraint F
adds = base (product is_add (difference c (sum a b)))

abbrev pub subtracts : {F : Type 0} → Constraint F
subtracts = base (product is_sub (difference c (difference a b)))

abbrev pub multiplies : {F : Type 0} → Constraint F
multiplies = base (product is_mul (difference c (product a b)))

-- A number with one more binary digit, which a column has.
abbrev pub with_digit : {F : Type 0} → (ℕ → F) → Tree F → ℕ → Tree F
with_digit of_number before column = sum (product before (constant (of_number 2))) (main_current column)

-- The number of which the bits from bit 8 down to bit 8 - n are the first digits, less 2 ^ n: with all nine, bit 8 is 1 from 0 on, and 0 below.
abbrev pub digits : {F : Type 0} → F → (ℕ → F) → ℕ → Tree F
digits one of_number zero = difference (bit 8) (constant one)
digits one of_number (suc n) = with_digit of_number (digits one of_number n) (38 - n)

-- The result is 1 where bit 8 is 0, and in an active row the bits are the digits of the operands' difference: then it is below 0.
abbrev pub compares : {F : Type 0} → F → Constraint F
compares one = base (product is_less (difference c (difference (constant one) (bit 8))))

abbrev pub has_digits : {F : Type 0} → F → (ℕ → F) → Constraint F
has_digits one of_number = base (product (product active is_less) (difference (difference a b) (digits one of_number 8)))

-- The result is the cell that is reached.
abbrev pub loads : {F : Type 0} → Constraint F
loads = base (product is_load (difference c (selected address 6)))

-- The result of a jump is the product of the first operand and some number, and 1 where that operand isn't 0: it says whether to jump.
abbrev pub jumps_by_product : {F : Type 0} → Constraint F
jumps_by_product = base (product is_jump (difference c (product a inverse)))

abbrev pub jumps_unless_zero : {F : Type 0} → Constraint F
jumps_unless_zero = base (product is_jump (difference a (product a c)))

abbrev pub results : {F : Type 0} → F → (ℕ → F) → List (Constraint F)
results one of_number = map (shift 31) (booleans one 9)
    ++ (adds ∷ subtracts ∷ multiplies ∷ [])
    ++ (compares one ∷ has_digits one of_number ∷ [])
    ++ loads ∷ jumps_by_product ∷ jumps_unless_zero ∷ []

-- ---- what the next row begins with

-- How much further than the next instruction a jump goes, 0 where there is none.
abbrev pub jump_distance : {F : Type 0} → F → Tree F
jump_distance one = product is_jump (product c (difference (difference number pc) (constant one)))

-- Next comes the instruction behind this one; the same one again at a halt; and that of the number where a jump's result is 1.
abbrev pub continues : {F : Type 0} → F → Constraint F
continues one = equal then (sum (sum pc (difference (constant one) is_halt)) (jump_distance one))

-- It does in an active row; in another one the place stays.
abbrev pub pc_next : {F : Type 0} → Constraint F
pc_next = equal_on transition (main_next 0) (sum pc (product active (difference then pc)))

-- The register that is written becomes the result, the others stay.
abbrev pub register_next : {F : Type 0} → ℕ → Constraint F
register_next i = equal_on transition (main_next (2 + i)) (sum (register i) (product (main_current (18 + i)) (difference c (register i))))

-- The cell that a store reaches becomes the first operand, the others stay.
abbrev pub cell_next : {F : Type 0} → ℕ → Constraint F
cell_next i = equal_on transition (main_next (6 + i)) (sum (cell i) (product is_store (product (main_current (22 + i)) (difference a (cell i)))))

abbrev pub control : {F : Type 0} → F → List (Constraint F)
control one = continues one ∷ pc_next ∷ []

abbrev pub next_row : {F : Type 0} → F → List (Constraint F)
next_row one = control one ++ map register_next (range_with_len 0 4) ++ map cell_next (range_with_len 0 4)

abbrev pub step : {F : Type 0} → F → (ℕ → F) → List (Constraint F)
step one of_number = operands ++ results one of_number ++ next_row one

-- ---- the beginning and the end

-- The column is 0 on the first row.
abbrev pub begins_with_zero : {F : Type 0} → ℕ → Constraint F
begins_with_zero column = base (product first_row (main_current column))

-- The register begins with the public value of its number.
abbrev pub begins_with_input : {F : Type 0} → ℕ → Constraint F
begins_with_input i = equal_on first_row (register i) (public_value i)

-- The program begins at place 0 with two inputs in registers 0 and 1; the other registers and the cells, columns 4 to 9, are 0.
abbrev pub beginning : {F : Type 0} → List (Constraint F)
beginning = (begins_with_zero 0 ∷ begins_with_input 0 ∷ begins_with_input 1 ∷ []) ++ map begins_with_zero (range_with_len 4 6)

-- The last row is active, and its register 0 is the third public value, the result.
abbrev pub ends_active : {F : Type 0} → F → Constraint F
ends_active one = equal_on last_row active (constant one)

abbrev pub ends_with_result : {F : Type 0} → Constraint F
ends_with_result = equal_on last_row (register 0) (public_value 2)

abbrev pub end : {F : Type 0} → F → List (Constraint F)
end one = ends_active one ∷ ends_with_result ∷ []

abbrev pub machine_constraints : {F : Type 0} → F → (ℕ → F) → List (Constraint F)
machine_constraints one of_number = choices one of_number ++ step one of_number ++ beginning ++ end one

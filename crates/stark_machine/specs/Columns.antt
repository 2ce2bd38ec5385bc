-- The machine's columns, each as a leaf. Its state at the beginning of a row:
use Rattle.std.specs.Prelude.{ℕ, ◌+◌, ◌<◌, ◌≤◌}
use Rattle.stark_air.specs.Layout.{Covers, Layout}
use Rattle.stark_air.specs.Tree.{Tree, main_current, preprocessed_current}

-- 40 main columns, of which the next row is read, 14 of the program, and three public values.
abbrev pub machine_layout : Layout
machine_layout = record { main = 40; main_next = 40; preprocessed = 14; preprocessed_next = 0; public_values = 3; periodics = 0 }

-- the place of the instruction that comes next,
abbrev pub pc : {F : Type 0} → Tree F
pc = main_current 0

-- and the register and the memory's cell of a number, 0 to 3.
abbrev pub register : {F : Type 0} → ℕ → Tree F
register i = main_current (2 + i)

abbrev pub cell : {F : Type 0} → ℕ → Tree F
cell i = main_current (6 + i)

-- Whether the row's instruction is the one that comes next.
abbrev pub active : {F : Type 0} → Tree F
active = main_current 1

-- Flags from these columns on: which register is read as the first and as the second operand, which one is written, and which cell is reached.
abbrev pub left : ℕ
left = 10

abbrev pub right : ℕ
right = 14

abbrev pub target : ℕ
target = 18

abbrev pub address : ℕ
address = 22

-- The operands, the result, and for a jump the first operand's inverse.
abbrev pub a : {F : Type 0} → Tree F
a = main_current 26

abbrev pub b : {F : Type 0} → Tree F
b = main_current 27

abbrev pub c : {F : Type 0} → Tree F
c = main_current 28

abbrev pub inverse : {F : Type 0} → Tree F
inverse = main_current 29

-- The place of the instruction after this one.
abbrev pub then : {F : Type 0} → Tree F
then = main_current 30

-- The bit of a number, 0 to 8.
abbrev pub bit : {F : Type 0} → ℕ → Tree F
bit i = main_current (31 + i)

-- ---- the program's columns: the instruction's place,
abbrev pub place : {F : Type 0} → Tree F
place = preprocessed_current 0

-- a flag for each kind of instruction,
abbrev pub is_add : {F : Type 0} → Tree F
is_add = preprocessed_current 1

abbrev pub is_sub : {F : Type 0} → Tree F
is_sub = preprocessed_current 2

abbrev pub is_mul : {F : Type 0} → Tree F
is_mul = preprocessed_current 3

abbrev pub is_less : {F : Type 0} → Tree F
is_less = preprocessed_current 4

abbrev pub is_load : {F : Type 0} → Tree F
is_load = preprocessed_current 5

abbrev pub is_store : {F : Type 0} → Tree F
is_store = preprocessed_current 6

abbrev pub is_jump : {F : Type 0} → Tree F
is_jump = preprocessed_current 7

abbrev pub is_halt : {F : Type 0} → Tree F
is_halt = preprocessed_current 8

-- whether the second operand is a register, the numbers of the registers that are read and written, and the number.
abbrev pub from_register : {F : Type 0} → Tree F
from_register = preprocessed_current 9

abbrev pub left_index : ℕ
left_index = 10

abbrev pub right_index : ℕ
right_index = 11

abbrev pub target_index : {F : Type 0} → Tree F
target_index = preprocessed_current 12

abbrev pub number : {F : Type 0} → Tree F
number = preprocessed_current 13

-- ---- a row has the machine's columns, and among them four flags from a column on, and the column of the program with their index
pub record ReadsWithin (layout : Layout) (first : ℕ) (column : ℕ) : Type 0 where
  pub covered : Covers layout machine_layout
  pub flags : first ≤ 36
  pub index : column < 14

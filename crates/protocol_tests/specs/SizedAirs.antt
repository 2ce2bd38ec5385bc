-- What the AIRs of the rows declare, and their constraints.
use Rattle.std.specs.Prelude.{ℕ, Bool, true, false, List, [], ◌∷◌, None, refl}
use Rattle.std.specs.List.{range_with_len}
use Rattle.std.proofs.Common.{arith}
use Rattle.stark_air.specs.Declaration.{IsDeclared, next_width}
use Rattle.stark_air.specs.Layout.{Layout, LeavesWithin}
use Rattle.stark_air.specs.Tree.{Tree, Constraint, base, main_current, main_next, transition, product}
use Rattle.protocol_tests.specs.declared.kinds.Kind.{Kind}
use Rattle.protocol_tests.specs.declared.kinds.Kind.TheVariants.{Nothing, Column, Columns, Cube, SteppedSquare, Wide}

abbrev pub width_of : Kind → ℕ
width_of (Wide reads_next) = 8
width_of Nothing = 4
width_of Column = 4
width_of Columns = 4
width_of Cube = 4
width_of SteppedSquare = 4

abbrev pub next_columns_if : Bool → List ℕ
next_columns_if true = range_with_len 0 8
next_columns_if false = []

abbrev pub next_columns_of : Kind → List ℕ
next_columns_of (Wide reads_next) = next_columns_if reads_next
next_columns_of Nothing = range_with_len 0 4
next_columns_of Column = range_with_len 0 4
next_columns_of Columns = range_with_len 0 4
next_columns_of Cube = range_with_len 0 4
next_columns_of SteppedSquare = range_with_len 0 4

abbrev pub layout_of_kind : Kind → Layout
layout_of_kind kind = record { main = width_of kind; main_next = next_width (next_columns_of kind) (width_of kind); preprocessed = 0; preprocessed_next = 0; public_values = 0; periodics = 0 }

pub kind_declared : {F : Type 0} (kind : Kind) → IsDeclared {F = F} (layout_of_kind kind) None [] (next_columns_of kind) []
kind_declared kind = record { preprocessed_width = refl; periodic_columns = refl; main_next_row = refl; preprocessed_next_row = refl }

-- A column of the next row or of the current one.
abbrev pub entry : {F : Type 0} → Bool → ℕ → Tree F
entry true column = main_next column
entry false column = main_current column

abbrev pub three_columns : {F : Type 0} → Bool → List (Constraint F)
three_columns next = base (main_current 0) ∷ base (entry next 1) ∷ base (entry next 2) ∷ []

abbrev pub factor : {F : Type 0} → Bool → Tree F
factor true = transition
factor false = main_current 0

-- The square of column 0, times the transition selector or column 0.
abbrev pub square_times : {F : Type 0} → Bool → Constraint F
square_times stepped = base (product (product (factor stepped) (main_current 0)) (main_current 0))

abbrev pub constraints_of : {F : Type 0} → Kind → List (Constraint F)
constraints_of Nothing = []
constraints_of Column = base (main_current 0) ∷ []
constraints_of Columns = three_columns true
constraints_of Cube = square_times false ∷ []
constraints_of SteppedSquare = square_times true ∷ []
constraints_of (Wide reads_next) = three_columns false

pub kind_within : (F : Type 0) (kind : Kind) → LeavesWithin {F = F} (layout_of_kind kind) (constraints_of kind)
kind_within F Nothing = tt
kind_within F Column = (omega arith, tt)
kind_within F Columns = (omega arith, (omega arith, (omega arith, tt)))
kind_within F Cube = (((omega arith, omega arith), omega arith), tt)
kind_within F SteppedSquare = (((tt, omega arith), omega arith), tt)
kind_within F (Wide reads_next) = (omega arith, (omega arith, (omega arith, tt)))

-- What any of the sample AIRs declares, and its constraints: those of the one that it holds.
use Rattle.std.specs.Prelude.{ℕ, List, [], ◌∷◌, Option, None, Some, refl}
use Rattle.std.proofs.Common.{arith}
use Rattle.stark_air.specs.Declaration.{IsDeclared, Trace}
use Rattle.stark_air.specs.Layout.{Layout, LeavesWithin}
use Rattle.stark_air.specs.Tree.{Constraint}
use Rattle.stark_samples.specs.Samples.{column_layout, counter_constraints, counter_layout, cubic_constraints, fibonacci_constraints, fibonacci_layout, pair_constraints, pair_layout, periodic_constraints, periodic_layout, preprocessed_constraints, preprocessed_layout}
use Rattle.stark_samples.specs.declared.any.AnySampleAir.{AnySampleAir}
use Rattle.stark_samples.specs.declared.any.AnySampleAir.TheVariants.{Counter, Cubic, Fibonacci, Pair, Periodic, Preprocessed}

abbrev pub any_layout : {F : Type 0} → AnySampleAir F → Layout
any_layout (Counter _) = counter_layout
any_layout (Cubic _) = column_layout
any_layout (Fibonacci _) = fibonacci_layout
any_layout (Pair _) = pair_layout
any_layout (Periodic _) = periodic_layout
any_layout (Preprocessed _) = preprocessed_layout

-- The preprocessed column is 1, 2, 3 and 4.
abbrev pub any_preprocessed_trace : {F : Type 0} → (ℕ → F) → AnySampleAir F → Option (Trace F)
any_preprocessed_trace of_number (Counter _) = None
any_preprocessed_trace of_number (Cubic _) = None
any_preprocessed_trace of_number (Fibonacci _) = None
any_preprocessed_trace of_number (Pair _) = None
any_preprocessed_trace of_number (Periodic _) = None
any_preprocessed_trace of_number (Preprocessed _) = Some (record { width = 1; values = of_number 1 ∷ of_number 2 ∷ of_number 3 ∷ of_number 4 ∷ [] })

abbrev pub any_periodic_columns : {F : Type 0} → AnySampleAir F → List (List F)
any_periodic_columns (Counter _) = []
any_periodic_columns (Cubic _) = []
any_periodic_columns (Fibonacci _) = []
any_periodic_columns (Pair _) = []
any_periodic_columns (Periodic air) = air.column.items ∷ []
any_periodic_columns (Preprocessed _) = []

abbrev pub any_next_columns : {F : Type 0} → AnySampleAir F → List ℕ
any_next_columns (Counter _) = 0 ∷ []
any_next_columns (Cubic _) = []
any_next_columns (Fibonacci _) = 0 ∷ 1 ∷ []
any_next_columns (Pair _) = 0 ∷ 1 ∷ []
any_next_columns (Periodic _) = []
any_next_columns (Preprocessed _) = []

abbrev pub any_constraints : {F : Type 0} → F → AnySampleAir F → List (Constraint F)
any_constraints one (Counter _) = counter_constraints one
any_constraints one (Cubic _) = cubic_constraints
any_constraints one (Fibonacci _) = fibonacci_constraints
any_constraints one (Pair _) = pair_constraints one
any_constraints one (Periodic _) = periodic_constraints
any_constraints one (Preprocessed _) = preprocessed_constraints

pub any_declared : {F : Type 0} (of_number : ℕ → F) (air : AnySampleAir F) → IsDeclared (any_layout air) (any_preprocessed_trace of_number air) (any_periodic_columns air) (any_next_columns air) []
any_declared of_number (Counter _) = record { preprocessed_width = refl; periodic_columns = refl; main_next_row = refl; preprocessed_next_row = refl }
any_declared of_number (Cubic _) = record { preprocessed_width = refl; periodic_columns = refl; main_next_row = refl; preprocessed_next_row = refl }
any_declared of_number (Fibonacci _) = record { preprocessed_width = refl; periodic_columns = refl; main_next_row = refl; preprocessed_next_row = refl }
any_declared of_number (Pair _) = record { preprocessed_width = refl; periodic_columns = refl; main_next_row = refl; preprocessed_next_row = refl }
any_declared of_number (Periodic _) = record { preprocessed_width = refl; periodic_columns = refl; main_next_row = refl; preprocessed_next_row = refl }
any_declared of_number (Preprocessed _) = record { preprocessed_width = refl; periodic_columns = refl; main_next_row = refl; preprocessed_next_row = refl }

pub any_within : {F : Type 0} (one : F) (air : AnySampleAir F) → LeavesWithin (any_layout air) (any_constraints one air)
any_within one (Counter _) = search arith
any_within one (Cubic _) = search arith
any_within one (Fibonacci _) = search arith
any_within one (Pair _) = search arith
any_within one (Periodic _) = search arith
any_within one (Preprocessed _) = search arith

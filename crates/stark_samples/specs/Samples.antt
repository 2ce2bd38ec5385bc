-- What the sample AIRs mean.
use Rattle.std.specs.Prelude.{ℕ, List, [], ◌∷◌, ◌++◌, map}
use Rattle.stark_air.specs.Layout.{Layout}
use Rattle.stark_air.specs.Shift.{shift}
use Rattle.stark_air.specs.Tree.{Constraint, base, extension, constant, main_current, main_next, preprocessed_current, public_value, periodic_value, first_row, last_row, transition, sum, difference, product}

-- One main column, of which the current row is read, and nothing else.
abbrev pub column_layout : Layout
column_layout = record { main = 1; main_next = 0; preprocessed = 0; preprocessed_next = 0; public_values = 0; periodics = 0 }

abbrev pub counter_layout : Layout
counter_layout = record { main = 1; main_next = 1; preprocessed = 0; preprocessed_next = 0; public_values = 1; periodics = 0 }

-- On the first row the column is the public value.
abbrev pub counter_starts : {F : Type 0} → Constraint F
counter_starts = base (product first_row (difference (main_current 0) (public_value 0)))

-- From each row but the last to the next, the column goes up by one.
abbrev pub counter_steps : {F : Type 0} → F → Constraint F
counter_steps one = base (product transition (difference (difference (main_next 0) (main_current 0)) (constant one)))

abbrev pub counter_constraints : {F : Type 0} → F → List (Constraint F)
counter_constraints one = counter_starts ∷ counter_steps one ∷ []

-- The column's cube is zero.
abbrev pub cube : {F : Type 0} → Constraint F
cube = base (product (product (main_current 0) (main_current 0)) (main_current 0))

abbrev pub cubic_constraints : {F : Type 0} → List (Constraint F)
cubic_constraints = cube ∷ []

abbrev pub fibonacci_layout : Layout
fibonacci_layout = record { main = 2; main_next = 2; preprocessed = 0; preprocessed_next = 0; public_values = 3; periodics = 0 }

-- On the first row the column is the public value of its number.
abbrev pub fibonacci_starts : {F : Type 0} → ℕ → Constraint F
fibonacci_starts column = base (product first_row (difference (main_current column) (public_value column)))

-- The right column goes to the left one of the next row.
abbrev pub fibonacci_moves : {F : Type 0} → Constraint F
fibonacci_moves = base (product transition (difference (main_next 0) (main_current 1)))

-- The sum of both goes to the right one of the next row.
abbrev pub fibonacci_adds : {F : Type 0} → Constraint F
fibonacci_adds = base (product transition (difference (main_next 1) (sum (main_current 0) (main_current 1))))

-- On the last row the right column is the last public value.
abbrev pub fibonacci_ends : {F : Type 0} → Constraint F
fibonacci_ends = base (product last_row (difference (main_current 1) (public_value 2)))

abbrev pub fibonacci_constraints : {F : Type 0} → List (Constraint F)
fibonacci_constraints = fibonacci_starts 0 ∷ fibonacci_starts 1 ∷ fibonacci_moves ∷ fibonacci_adds ∷ fibonacci_ends ∷ []

abbrev pub periodic_layout : Layout
periodic_layout = record { main = 1; main_next = 0; preprocessed = 0; preprocessed_next = 0; public_values = 0; periodics = 1 }

-- The column is the periodic one.
abbrev pub is_periodic : {F : Type 0} → Constraint F
is_periodic = base (difference (main_current 0) (periodic_value 0))

abbrev pub periodic_constraints : {F : Type 0} → List (Constraint F)
periodic_constraints = is_periodic ∷ []

abbrev pub preprocessed_layout : Layout
preprocessed_layout = record { main = 1; main_next = 0; preprocessed = 1; preprocessed_next = 0; public_values = 0; periodics = 0 }

-- The column is the preprocessed one.
abbrev pub is_preprocessed : {F : Type 0} → Constraint F
is_preprocessed = base (difference (main_current 0) (preprocessed_current 0))

abbrev pub preprocessed_constraints : {F : Type 0} → List (Constraint F)
preprocessed_constraints = is_preprocessed ∷ []

abbrev pub pair_layout : Layout
pair_layout = record { main = 2; main_next = 2; preprocessed = 0; preprocessed_next = 0; public_values = 1; periodics = 0 }

-- The counter on the left column, and then on the right one, both from the one public value.
abbrev pub pair_constraints : {F : Type 0} → F → List (Constraint F)
pair_constraints one = map (shift 0) (counter_constraints one) ++ map (shift 1) (counter_constraints one)

-- The column is a number.
abbrev pub is_number : {F : Type 0} → F → Constraint F
is_number k = base (difference (main_current 0) (constant k))

-- The column is that number, as a constraint over the extension.
abbrev pub is_number_above : {F : Type 0} → F → Constraint F
is_number_above k = extension (difference (main_current 0) (constant k))

abbrev pub mixed_constraints : {F : Type 0} → (ℕ → F) → List (Constraint F)
mixed_constraints of_number = is_number (of_number 1) ∷ is_number_above (of_number 2) ∷ is_number (of_number 3) ∷ []

-- The first row's selector is one.
abbrev pub is_one_on_first_row : {F : Type 0} → F → Constraint F
is_one_on_first_row one = base (difference first_row (constant one))

-- The column is zero.
abbrev pub is_zero : {F : Type 0} → Constraint F
is_zero = base (main_current 0)

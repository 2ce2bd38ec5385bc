-- A column that doubles.
use Rattle.stark_air.specs.Layout.{Layout}
use Rattle.stark_air.specs.Tree.{Constraint, base, main_current, main_next, public_value, first_row, transition, sum, difference, product}

abbrev pub steps_layout : Layout
steps_layout = record { main = 1; main_next = 1; preprocessed = 0; preprocessed_next = 0; public_values = 1; periodics = 0 }

-- On the first row the column is the public value.
abbrev pub begins : {F : Type 0} → Constraint F
begins = base (product first_row (difference (main_current 0) (public_value 0)))

-- From each row but the last to the next, the column doubles.
abbrev pub doubles : {F : Type 0} → Constraint F
doubles = base (product transition (difference (main_next 0) (sum (main_current 0) (main_current 0))))

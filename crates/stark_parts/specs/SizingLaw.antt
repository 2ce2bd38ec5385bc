-- Which constraints the sizing of a quotient's domain is enough for.
use Rattle.std.specs.Prelude.{ℕ, ◌+◌, ◌-◌, ◌^◌, ◌<◌, ◌≤◌, List, max}
use Rattle.std.specs.List.{AllByRecursion}
use Rattle.stark_symbolic.specs.Degree.{greatest_degree}
use Rattle.stark_air.specs.Tree.{Tree, Constraint, base, extension, constant, main_current, main_next, preprocessed_current, preprocessed_next, public_value, periodic_value, first_row, last_row, transition, sum, difference, product, negation}
use Rattle.stark_parts.specs.ConstraintBound.{greatest_bound}

-- How many factors of a tree's terms are the transition selector, at most: of a sum the greater number, of a product the sum.
abbrev pub transition_factors : {F : Type 0} → Tree F → ℕ
transition_factors (constant k) = 0
transition_factors (main_current c) = 0
transition_factors (main_next c) = 0
transition_factors (preprocessed_current c) = 0
transition_factors (preprocessed_next c) = 0
transition_factors (public_value k) = 0
transition_factors (periodic_value c) = 0
transition_factors first_row = 0
transition_factors last_row = 0
transition_factors transition = 1
transition_factors (sum t u) = max (transition_factors t) (transition_factors u)
transition_factors (difference t u) = max (transition_factors t) (transition_factors u)
transition_factors (product t u) = transition_factors t + transition_factors u
transition_factors (negation t) = transition_factors t

abbrev pub HasOneTransitionFactor : {F : Type 0} → Constraint F → Type 0
HasOneTransitionFactor (base t) = transition_factors t ≤ 1
HasOneTransitionFactor (extension t) = transition_factors t ≤ 1

-- Each term of each constraint has at most one transition factor, and no degree multiple saturates.
pub record AreSizable {F : Type 0} (constraints : List (Constraint F)) : Type 0 where
  pub single : AllByRecursion HasOneTransitionFactor constraints
  pub unsaturated : greatest_degree 0 constraints < 2 ^ 64 - 1

-- The greatest degree bound of constraints over 2 ^ height rows, whose columns are committed at 2 ^ degree_bits, is below the
-- height plus the size of a quotient's domain of 2 ^ log_parts parts.
abbrev pub HasSmallBound : {F : Type 0} → List (Constraint F) → ℕ → ℕ → ℕ → Type 0
HasSmallBound constraints height degree_bits log_parts = greatest_bound (2 ^ degree_bits) (2 ^ height) constraints < 2 ^ height + 2 ^ (degree_bits + log_parts)

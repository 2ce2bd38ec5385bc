-- The degree multiple of a tree: its degree in the trace's columns, in multiples of the number of rows.
use Rattle.std.specs.Prelude.{ℕ, ◌+◌, ◌^◌, ◌-◌, min, max, List, [], ◌∷◌, Option, Some, None}
use Rattle.stark_air.specs.Tree.{Tree, Constraint, base, extension, constant, main_current, main_next, preprocessed_current, preprocessed_next, public_value, periodic_value, first_row, last_row, transition, sum, difference, product, negation}
use Rattle.stark_symbolic.specs.declared.builder.SymbolicConstraint.{SymbolicConstraint}
use Rattle.stark_symbolic.specs.declared.builder.SymbolicConstraint.TheVariants.{Base, Extension}

-- At most the greatest number of 64 bits.
abbrev pub saturated : ℕ → ℕ
saturated n = min n (2 ^ 64 - 1)

-- 1 for a column and the selectors of the first and last row, `d` for that of the transition, 0 for what is the same in
-- each row; of a sum the greater, of a product the sum.
abbrev pub degree : {F : Type 0} → ℕ → Tree F → ℕ
degree d (constant k) = 0
degree d (main_current c) = 1
degree d (main_next c) = 1
degree d (preprocessed_current c) = 1
degree d (preprocessed_next c) = 1
degree d (public_value i) = 0
degree d (periodic_value c) = 1
degree d first_row = 1
degree d last_row = 1
degree d transition = d
degree d (sum t u) = max (degree d t) (degree d u)
degree d (difference t u) = max (degree d t) (degree d u)
degree d (product t u) = saturated (degree d t + degree d u)
degree d (negation t) = degree d t

-- The degree of an expression's tree, 0 where it was refused memory.
abbrev pub expression_degree : {F : Type 0} → ℕ → Option (Tree F) → ℕ
expression_degree d None = 0
expression_degree d (Some t) = degree d t

abbrev pub marked_degree : {F : Type 0} → ℕ → SymbolicConstraint F → ℕ
marked_degree d (Base x) = expression_degree d x
marked_degree d (Extension x) = expression_degree d x

-- The greatest degree of a list of constraints, 0 for none.
abbrev pub greatest_degree : {F : Type 0} → ℕ → List (Constraint F) → ℕ
greatest_degree d [] = 0
greatest_degree d (base t ∷ cs) = max (degree d t) (greatest_degree d cs)
greatest_degree d (extension t ∷ cs) = max (degree d t) (greatest_degree d cs)

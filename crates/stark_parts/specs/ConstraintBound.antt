-- The degrees of constraints as polynomials.
use Rattle.std.specs.Prelude.{ℕ, ◌+◌, ◌-◌, List, [], ◌∷◌, max}
use Rattle.stark_air.specs.Tree.{Tree, Constraint, base, extension, constant, main_current, main_next, preprocessed_current, preprocessed_next, public_value, periodic_value, first_row, last_row, transition, sum, difference, product, negation}

-- The degree of a constraint over columns of degree below m, on a subgroup of n points: m - 1 for a column, n - 1 for the selectors
-- of the first and last row and a periodic column, 1 for that of the transition, 0 for a constant and a public value; of a
-- sum the greater, of a product the sum.
abbrev pub tree_bound : {F : Type 0} → ℕ → ℕ → Tree F → ℕ
tree_bound m n (constant k) = 0
tree_bound m n (main_current c) = m - 1
tree_bound m n (main_next c) = m - 1
tree_bound m n (preprocessed_current c) = m - 1
tree_bound m n (preprocessed_next c) = m - 1
tree_bound m n (public_value k) = 0
tree_bound m n (periodic_value c) = n - 1
tree_bound m n first_row = n - 1
tree_bound m n last_row = n - 1
tree_bound m n transition = 1
tree_bound m n (sum t u) = max (tree_bound m n t) (tree_bound m n u)
tree_bound m n (difference t u) = max (tree_bound m n t) (tree_bound m n u)
tree_bound m n (product t u) = tree_bound m n t + tree_bound m n u
tree_bound m n (negation t) = tree_bound m n t

abbrev pub constraint_bound : {F : Type 0} → ℕ → ℕ → Constraint F → ℕ
constraint_bound m n (base t) = tree_bound m n t
constraint_bound m n (extension t) = tree_bound m n t

-- The greatest of the constraints' bounds, 0 without constraints.
abbrev pub greatest_bound : {F : Type 0} → ℕ → ℕ → List (Constraint F) → ℕ
greatest_bound m n [] = 0
greatest_bound m n (c ∷ cs) = max (constraint_bound m n c) (greatest_bound m n cs)

-- How much of each kind a row has, or an AIR reads.
use Rattle.std.specs.Prelude.{ℕ, ◌<◌, ◌≤◌, List, [], ◌∷◌}
use Rattle.stark_air.specs.Tree.{Tree, Constraint, base, extension, constant, main_current, main_next, preprocessed_current, preprocessed_next, public_value, periodic_value, first_row, last_row, transition, sum, difference, product, negation}

-- The columns of the main and the preprocessed row, of the rows after them, the public values and the periodic columns.
pub record Layout : Type 0 where
  pub main : ℕ
  pub main_next : ℕ
  pub preprocessed : ℕ
  pub preprocessed_next : ℕ
  pub public_values : ℕ
  pub periodics : ℕ

-- The first has at least what the second asks.
pub record Covers (have : Layout) (want : Layout) : Type 0 where
  pub main : want.main ≤ have.main
  pub main_next : want.main_next ≤ have.main_next
  pub preprocessed : want.preprocessed ≤ have.preprocessed
  pub preprocessed_next : want.preprocessed_next ≤ have.preprocessed_next
  pub public_values : want.public_values ≤ have.public_values
  pub periodics : want.periodics ≤ have.periodics

-- The layout has every leaf of a tree.
abbrev pub TreeWithin : {F : Type 0} → Layout → Tree F → Type 0
TreeWithin l (constant k) = Unit {0}
TreeWithin l (main_current c) = c < l.main
TreeWithin l (main_next c) = c < l.main_next
TreeWithin l (preprocessed_current c) = c < l.preprocessed
TreeWithin l (preprocessed_next c) = c < l.preprocessed_next
TreeWithin l (public_value i) = i < l.public_values
TreeWithin l (periodic_value c) = c < l.periodics
TreeWithin l first_row = Unit {0}
TreeWithin l last_row = Unit {0}
TreeWithin l transition = Unit {0}
TreeWithin l (sum t u) = TreeWithin l t × TreeWithin l u
TreeWithin l (difference t u) = TreeWithin l t × TreeWithin l u
TreeWithin l (product t u) = TreeWithin l t × TreeWithin l u
TreeWithin l (negation t) = TreeWithin l t

-- The layout has every leaf of the constraints.
abbrev pub LeavesWithin : {F : Type 0} → Layout → List (Constraint F) → Type 0
LeavesWithin l [] = Unit {0}
LeavesWithin l (base t ∷ cs) = TreeWithin l t × LeavesWithin l cs
LeavesWithin l (extension t ∷ cs) = TreeWithin l t × LeavesWithin l cs

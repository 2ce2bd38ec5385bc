-- Degrees of trees by the degrees of their leaves.
use Rattle.std.specs.Prelude.{◌≡◌, ℕ, ◌+◌, ◌^◌, ◌<◌, max, List, [], ◌∷◌}
use Rattle.std.proofs.Common.{arith}
use Rattle.stark_support.specs.Operations.{Operations}
use Rattle.stark_air.specs.Tree.{Tree, Constraint, base, extension, constant, main_current, main_next, preprocessed_current, preprocessed_next, public_value, periodic_value, first_row, last_row, transition, sum, difference, product, negation}
use Rattle.stark_air.specs.Value.{Environment, value, constraint_value}
use Rattle.stark_symbolic.specs.Degree.{saturated, degree, greatest_degree}
use Rattle.stark_symbolic.specs.declared.leaf_degrees.LeafDegrees.{LeafDegrees}

-- A constant has degree 0, a sum and a difference the greater of two degrees, a product their sum, a negation the same.
abbrev pub degree_operations : {F : Type 0} → Operations F ℕ
degree_operations = record { embed = λ _. 0; plus = max; minus = max; times = λ m n. m + n; negated = λ n. n }

-- Each leaf has the degree of its kind, a public value 0.
abbrev pub leaf_environment : LeafDegrees → Environment ℕ
leaf_environment leaves = record {
  main_current = λ _. leaves.column;
  main_next = λ _. leaves.column;
  preprocessed_current = λ _. leaves.column;
  preprocessed_next = λ _. leaves.column;
  public_value = λ _. 0;
  periodic_value = λ _. leaves.periodic;
  first_row = leaves.boundary;
  last_row = leaves.boundary;
  transition = leaves.transition;
}

abbrev pub degree_by : {F : Type 0} → LeafDegrees → Tree F → ℕ
degree_by {F} leaves t = value (degree_operations {F = F}) (leaf_environment leaves) t

abbrev pub constraint_degree_by : {F : Type 0} → LeafDegrees → Constraint F → ℕ
constraint_degree_by {F} leaves c = constraint_value (degree_operations {F = F}) (leaf_environment leaves) c

-- The greatest degree of the constraints, 0 without any.
abbrev pub greatest_degree_by : {F : Type 0} → LeafDegrees → List (Constraint F) → ℕ
greatest_degree_by leaves [] = 0
greatest_degree_by leaves (c ∷ cs) = max (constraint_degree_by leaves c) (greatest_degree_by leaves cs)

-- In multiples of the trace's length: 1 for a column and the selectors of the first and the last row, d for the transition's.
abbrev pub trace_multiples : ℕ → LeafDegrees
trace_multiples d = record { column = 1; periodic = 1; boundary = 1; transition = d }

-- The degree multiple of a tree is that, as far as 64 bits hold it.
pub degree_is_saturated : {F : Type 0} (d : ℕ) → d < 2 ^ 64 → (t : Tree F) → degree d t ≡ saturated (degree_by (trace_multiples d) t)
degree_is_saturated d below (constant k) = omega arith
degree_is_saturated d below (main_current c) = omega arith
degree_is_saturated d below (main_next c) = omega arith
degree_is_saturated d below (preprocessed_current c) = omega arith
degree_is_saturated d below (preprocessed_next c) = omega arith
degree_is_saturated d below (public_value i) = omega arith
degree_is_saturated d below (periodic_value c) = omega arith
degree_is_saturated d below first_row = omega arith
degree_is_saturated d below last_row = omega arith
degree_is_saturated d below transition = omega arith
degree_is_saturated d below (sum t u) = let e = degree_is_saturated d below t in let f = degree_is_saturated d below u in omega (arith, e, f)
degree_is_saturated d below (difference t u) = let e = degree_is_saturated d below t in let f = degree_is_saturated d below u in omega (arith, e, f)
degree_is_saturated d below (product t u) = let e = degree_is_saturated d below t in let f = degree_is_saturated d below u in omega (arith, e, f)
degree_is_saturated d below (negation t) = degree_is_saturated d below t

pub greatest_is_saturated : {F : Type 0} (d : ℕ) → d < 2 ^ 64 → (cs : List (Constraint F)) → greatest_degree d cs ≡ saturated (greatest_degree_by (trace_multiples d) cs)
greatest_is_saturated d below [] = omega arith
greatest_is_saturated d below (base t ∷ cs) = let e = degree_is_saturated d below t in let f = greatest_is_saturated d below cs in omega (arith, e, f)
greatest_is_saturated d below (extension t ∷ cs) = let e = degree_is_saturated d below t in let f = greatest_is_saturated d below cs in omega (arith, e, f)

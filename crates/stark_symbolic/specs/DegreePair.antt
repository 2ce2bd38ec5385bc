-- How expressions compute of which two degrees are known.
use Rattle.std.specs.Prelude.{◌≡◌, ◌⊎◌, ℕ, ◌+◌, ◌<◌, ◌≤◌, ◌^◌, max, List, [], ◌∷◌, map, Option, Some, None, refl}
use Rattle.std.proofs.Common.{sym, ◌∙◌, ap, arith, inl, inr}
use Rattle.stark_support.specs.Operations.{Operations}
use Rattle.stark_air.specs.Tree.{Tree, Constraint, base, extension, constant, main_current, main_next, preprocessed_current, preprocessed_next, public_value, periodic_value, first_row, last_row, transition, sum, difference, product, negation}
use Rattle.stark_air.specs.Value.{Environment, value}
use Rattle.stark_symbolic.specs.Symbolic.{ap_two}
use Rattle.stark_symbolic.specs.Fitting.{fitting, below_or_past, fits, past}
use Rattle.stark_symbolic.specs.LeafDegrees.{degree_by, constraint_degree_by, greatest_degree_by}
use Rattle.stark_symbolic.specs.declared.leaf_degrees.LeafDegrees.{LeafDegrees}
use Rattle.stark_symbolic.specs.declared.degree_expression.DegreePair.{DegreePair}
use Rattle.stark_symbolic.specs.declared.degree_expression.DegreeExpression.{DegreeExpression}
use Rattle.stark_symbolic.specs.declared.degree_builder.ConstraintDegrees.{ConstraintDegrees}
use Rattle.stark_symbolic.specs.declared.degree_builder.ConstraintDegrees.TheVariants.{Base, Extension}

-- The greater of two numbers, where both are there.
abbrev pub fitting_greater : Option ℕ → Option ℕ → Option ℕ
fitting_greater (Some a) (Some b) = Some (max a b)
fitting_greater (Some a) None = None
fitting_greater None q = None

-- The sum of two numbers, where both are there and 64 bits hold it.
abbrev pub fitting_sum : Option ℕ → Option ℕ → Option ℕ
fitting_sum (Some a) (Some b) = fitting (a + b)
fitting_sum (Some a) None = None
fitting_sum None q = None

abbrev pub greater_pair : DegreePair → DegreePair → DegreePair
greater_pair x y = record { first = fitting_greater x.first y.first; second = fitting_greater x.second y.second }

abbrev pub sum_pair : DegreePair → DegreePair → DegreePair
sum_pair x y = record { first = fitting_sum x.first y.first; second = fitting_sum x.second y.second }

-- Two numbers, each where 64 bits hold it.
abbrev pub fitting_pair : ℕ → ℕ → DegreePair
fitting_pair m n = record { first = fitting m; second = fitting n }

abbrev pub expression_of : {F : Type 0} → DegreePair → DegreeExpression F
expression_of x = record { degrees = x; field = record {} }

-- The expression of two numbers of 64 bits.
abbrev pub known : {F : Type 0} → ℕ → ℕ → DegreeExpression F
known m n = expression_of (record { first = Some m; second = Some n })

abbrev pub greater_degrees : {F : Type 0} → DegreeExpression F → DegreeExpression F → DegreeExpression F
greater_degrees x y = expression_of (greater_pair x.degrees y.degrees)

abbrev pub sum_degrees : {F : Type 0} → DegreeExpression F → DegreeExpression F → DegreeExpression F
sum_degrees x y = expression_of (sum_pair x.degrees y.degrees)

abbrev pub pair_operations : {F : Type 0} → Operations F (DegreeExpression F)
pair_operations = record { embed = λ _. known 0 0; plus = greater_degrees; minus = greater_degrees; times = sum_degrees; negated = λ x. x }

-- Each leaf has the degrees of its kind, a public value 0.
abbrev pub pair_environment : {F : Type 0} → LeafDegrees → LeafDegrees → Environment (DegreeExpression F)
pair_environment one other = record {
  main_current = λ _. known one.column other.column;
  main_next = λ _. known one.column other.column;
  preprocessed_current = λ _. known one.column other.column;
  preprocessed_next = λ _. known one.column other.column;
  public_value = λ _. known 0 0;
  periodic_value = λ _. known one.periodic other.periodic;
  first_row = known one.boundary other.boundary;
  last_row = known one.boundary other.boundary;
  transition = known one.transition other.transition;
}

-- A constraint's two degrees, with its mark.
abbrev pub marked_degrees : {F : Type 0} → LeafDegrees → LeafDegrees → Constraint F → ConstraintDegrees
marked_degrees one other (base t) = Base (fitting_pair (degree_by one t) (degree_by other t))
marked_degrees one other (extension t) = Extension (fitting_pair (degree_by one t) (degree_by other t))

-- What is kept of a constraint over leaves of these degrees.
abbrev pub kept_degrees : {F : Type 0} → Environment (DegreeExpression F) → Constraint F → ConstraintDegrees
kept_degrees e (base t) = Base (value pair_operations e t).degrees
kept_degrees e (extension t) = Extension (value pair_operations e t).degrees

abbrev pub degrees_in : ConstraintDegrees → DegreePair
degrees_in (Base x) = x
degrees_in (Extension x) = x

-- The greatest of a pair and the degrees in a list.
abbrev pub greatest_from : DegreePair → List ConstraintDegrees → DegreePair
greatest_from x [] = x
greatest_from x (c ∷ cs) = greatest_from (greater_pair x (degrees_in c)) cs

no_second : (x : Option ℕ) → (fitting_greater x None ≡ None) × (fitting_sum x None ≡ None)
no_second None = (refl, refl)
no_second (Some a) = (refl, refl)

-- The greater of two numbers and their sum, where 64 bits hold it.
pub greater_fits : (a b : ℕ) → fitting_greater (fitting a) (fitting b) ≡ fitting (max a b)
greater_fits a b = go (below_or_past a (2 ^ 64)) (below_or_past b (2 ^ 64)) where
  go : (a < 2 ^ 64) ⊎ (2 ^ 64 ≤ a) → (b < 2 ^ 64) ⊎ (2 ^ 64 ≤ b) → fitting_greater (fitting a) (fitting b) ≡ fitting (max a b)
  go (inl p) (inl q) = ap_two fitting_greater (fits a p) (fits b q) ∙ sym (fits (max a b) (omega arith))
  go (inl p) (inr q) = ap (fitting_greater (fitting a)) (past b q) ∙ (no_second (fitting a)).0 ∙ sym (past (max a b) (omega arith))
  go (inr p) q = ap (λ x. fitting_greater x (fitting b)) (past a p) ∙ sym (past (max a b) (omega arith))

pub sum_fits : (a b : ℕ) → fitting_sum (fitting a) (fitting b) ≡ fitting (a + b)
sum_fits a b = go (below_or_past a (2 ^ 64)) (below_or_past b (2 ^ 64)) where
  go : (a < 2 ^ 64) ⊎ (2 ^ 64 ≤ a) → (b < 2 ^ 64) ⊎ (2 ^ 64 ≤ b) → fitting_sum (fitting a) (fitting b) ≡ fitting (a + b)
  go (inl p) (inl q) = ap_two fitting_sum (fits a p) (fits b q)
  go (inl p) (inr q) = ap (fitting_sum (fitting a)) (past b q) ∙ (no_second (fitting a)).1 ∙ sym (past (a + b) (omega arith))
  go (inr p) q = ap (λ x. fitting_sum x (fitting b)) (past a p) ∙ sym (past (a + b) (omega arith))

pub greater_pair_fits : (a b c d : ℕ) → greater_pair (fitting_pair a b) (fitting_pair c d) ≡ fitting_pair (max a c) (max b d)
greater_pair_fits a b c d = λ j. record { first = greater_fits a c j; second = greater_fits b d j }

sum_pair_fits : (a b c d : ℕ) → sum_pair (fitting_pair a b) (fitting_pair c d) ≡ fitting_pair (a + c) (b + d)
sum_pair_fits a b c d = λ j. record { first = sum_fits a c j; second = sum_fits b d j }

-- 64 bits hold the degree of each leaf.
pub record LeavesFit (leaves : LeafDegrees) : Type 0 where
  pub column : leaves.column < 2 ^ 64
  pub periodic : leaves.periodic < 2 ^ 64
  pub boundary : leaves.boundary < 2 ^ 64
  pub transition : leaves.transition < 2 ^ 64

known_fits : {F : Type 0} (m n : ℕ) → m < 2 ^ 64 → n < 2 ^ 64 → known {F = F} m n ≡ expression_of (fitting_pair m n)
known_fits {F} m n p q = λ j. expression_of {F = F} (record { first = sym (fits m p) j; second = sym (fits n q) j })

module _ {F : Type 0} (one other : LeafDegrees) (p : LeavesFit one) (q : LeavesFit other) where
  abbrev both_degrees : Tree F → DegreeExpression F
  both_degrees t = expression_of (fitting_pair (degree_by one t) (degree_by other t))

  greater_value : (t u : Tree F) (x y : DegreeExpression F) → x ≡ both_degrees t → y ≡ both_degrees u → greater_degrees x y ≡ both_degrees (sum t u)
  greater_value t u x y e f = ap_two greater_degrees e f ∙ ap (λ z. expression_of {F = F} z) (greater_pair_fits (degree_by one t) (degree_by other t) (degree_by one u) (degree_by other u))

  sum_value : (t u : Tree F) (x y : DegreeExpression F) → x ≡ both_degrees t → y ≡ both_degrees u → sum_degrees x y ≡ both_degrees (product t u)
  sum_value t u x y e f = ap_two sum_degrees e f ∙ ap (λ z. expression_of {F = F} z) (sum_pair_fits (degree_by one t) (degree_by other t) (degree_by one u) (degree_by other u))

  -- A tree's value is its two degrees.
  pub pair_value : (t : Tree F) → value pair_operations (pair_environment one other) t ≡ both_degrees t
  pair_value (constant k) = refl
  pair_value (main_current c) = known_fits one.column other.column p.column q.column
  pair_value (main_next c) = known_fits one.column other.column p.column q.column
  pair_value (preprocessed_current c) = known_fits one.column other.column p.column q.column
  pair_value (preprocessed_next c) = known_fits one.column other.column p.column q.column
  pair_value (public_value i) = refl
  pair_value (periodic_value c) = known_fits one.periodic other.periodic p.periodic q.periodic
  pair_value first_row = known_fits one.boundary other.boundary p.boundary q.boundary
  pair_value last_row = known_fits one.boundary other.boundary p.boundary q.boundary
  pair_value transition = known_fits one.transition other.transition p.transition q.transition
  pair_value (sum t u) = greater_value t u _ _ (pair_value t) (pair_value u)
  pair_value (difference t u) = greater_value t u _ _ (pair_value t) (pair_value u)
  pair_value (product t u) = sum_value t u _ _ (pair_value t) (pair_value u)
  pair_value (negation t) = pair_value t

  pub kept_are_marked : (cs : List (Constraint F)) → map (kept_degrees (pair_environment one other)) cs ≡ map (marked_degrees one other) cs
  kept_are_marked [] = refl
  kept_are_marked (base t ∷ cs) =
      ap (λ (x : DegreeExpression F). Base x.degrees ∷ map (kept_degrees (pair_environment one other)) cs) (pair_value t) ∙
      ap (λ (l : List ConstraintDegrees). marked_degrees one other (base t) ∷ l) (kept_are_marked cs)
  kept_are_marked (extension t ∷ cs) =
      ap (λ (x : DegreeExpression F). Extension x.degrees ∷ map (kept_degrees (pair_environment one other)) cs) (pair_value t) ∙
      ap (λ (l : List ConstraintDegrees). marked_degrees one other (extension t) ∷ l) (kept_are_marked cs)

-- The greatest of the marked degrees.
pub greatest_from_marked : {F : Type 0} (one other : LeafDegrees) (m n : ℕ) (cs : List (Constraint F)) → greatest_from (fitting_pair m n) (map (marked_degrees one other) cs)
    ≡ fitting_pair (max m (greatest_degree_by one cs)) (max n (greatest_degree_by other cs))
greatest_from_marked one other m n [] = ap_two fitting_pair (omega arith) (omega arith)
greatest_from_marked {F} one other m n (c ∷ cs) =
    step c ∙ greatest_from_marked one other (max m (constraint_degree_by one c)) (max n (constraint_degree_by other c)) cs ∙ ap_two fitting_pair (omega arith) (omega arith)
  where
    step : (c : Constraint F) → greatest_from (fitting_pair m n) (marked_degrees one other c ∷ map (marked_degrees one other) cs) ≡ greatest_from (fitting_pair (max m (constraint_degree_by one c)) (max n (constraint_degree_by other c))) (map (marked_degrees one other) cs)
    step (base t) = ap (λ x. greatest_from x (map (marked_degrees one other) cs)) (greater_pair_fits m n (degree_by one t) (degree_by other t))
    step (extension t) = ap (λ x. greatest_from x (map (marked_degrees one other) cs)) (greater_pair_fits m n (degree_by one t) (degree_by other t))

pub all_greatest : {F : Type 0} (one other : LeafDegrees) (all : List ConstraintDegrees) (cs : List (Constraint F)) → all ≡ map (marked_degrees one other) cs
    → greatest_from (fitting_pair 0 0) all ≡ fitting_pair (greatest_degree_by one cs) (greatest_degree_by other cs)
all_greatest one other all cs are = ap (greatest_from (fitting_pair 0 0)) are ∙ greatest_from_marked one other 0 0 cs ∙ ap_two fitting_pair (omega arith) (omega arith)

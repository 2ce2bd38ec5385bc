-- How many chunks a quotient is cut into.
use Rattle.std.specs.Prelude.{ℕ, ◌+◌, ◌-◌, max, List, Option, unwrap_or}
use Rattle.stark_air.specs.Tree.{Constraint}
use Rattle.stark_symbolic.specs.Degree.{saturated, greatest_degree}

-- The greatest degree multiple of the constraints, or the author's own bound where that is more; d for the transition selector.
abbrev pub constraint_degree : {F : Type 0} → ℕ → List (Constraint F) → Option ℕ → ℕ
constraint_degree d cs hint = max (greatest_degree d cs) (unwrap_or hint 0)

-- The bound on the quotient's degree, in multiples of the trace's length: one below the constraints' degree, which counts
-- as 2 at least, and as one more under zero knowledge.
abbrev pub quotient_multiple : ℕ → ℕ → ℕ
quotient_multiple degree is_zk = max (saturated (degree + is_zk)) 2 - 1

-- That bound for constraints, with an author's own bound on their degrees; d for the transition selector.
abbrev pub multiple_of : {F : Type 0} → ℕ → List (Constraint F) → Option ℕ → ℕ → ℕ
multiple_of d cs hint is_zk = quotient_multiple (constraint_degree d cs hint) is_zk

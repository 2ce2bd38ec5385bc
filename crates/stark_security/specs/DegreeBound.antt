-- How many draws can be bad, by the degrees of the constraints.
use Rattle.std.specs.Prelude.{ℕ, ◌+◌, ◌-◌, ◌*◌, ◌^◌, List, max, length, Option, Some, None, nat_lt, if◌then◌else◌}
use Rattle.stark_air.specs.Tree.{Constraint}
use Rattle.stark_symbolic.specs.declared.leaf_degrees.LeafDegrees.{LeafDegrees}
use Rattle.stark_parts.specs.ConstraintBound.{greatest_bound}

-- How many alphas can be bad: one less than there are constraints, 0 without constraints.
abbrev pub alpha_bound : {F : Type 0} → List (Constraint F) → ℕ
alpha_bound constraints = length constraints - 1

-- How many zetas can be bad, with so many chunks: the greater of the folded constraint's degree and that of Z_H times the
-- recomposed chunks, each of degree below m.
abbrev pub zeta_bound : {F : Type 0} → ℕ → ℕ → ℕ → List (Constraint F) → ℕ
zeta_bound m n chunks constraints = max (greatest_bound m n constraints) (n + (chunks - 1) * n + (m - 1))

-- The degrees of leaves over columns of degree below m, on a subgroup of n points.
abbrev pub bound_leaves : ℕ → ℕ → LeafDegrees
bound_leaves m n = record { column = m - 1; periodic = n - 1; boundary = n - 1; transition = 1 }

-- The two bounds, None where the second is above the greatest number of 64 bits.
abbrev pub error_bound : ℕ → ℕ → Option (ℕ × ℕ)
error_bound alphas zetas = if nat_lt zetas (2 ^ 64) then Some (alphas, zetas) else None

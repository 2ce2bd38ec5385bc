-- Rows of the sizing's law: a constraint with one transition factor, and one with two.
use Rattle.std.proofs.Common.{◌≡◌, refl, arith, ℕ, List, [], ◌∷◌}
use Rattle.stark_air.specs.Tree.{Constraint, base, main_current, transition, product}
use Rattle.stark_parts.specs.ConstraintBound.{greatest_bound}
use Rattle.stark_parts.specs.SizingLaw.{AreSizable, HasSmallBound, transition_factors}

-- transition * x * x: two of its factors are free of the transition.
abbrev squared_in_transition : List (Constraint ℕ)
squared_in_transition = base (product (product transition (main_current 0)) (main_current 0)) ∷ []

one_factor : transition_factors {F = ℕ} (product (product transition (main_current 0)) (main_current 0)) ≡ 1
one_factor = refl

squared_is_sizable : AreSizable squared_in_transition
squared_is_sizable = record { single = (omega arith, tt); unsaturated = omega arith }

-- transition * transition: a single row's domain, of one part, is too small for it.
abbrev two_transitions : List (Constraint ℕ)
two_transitions = base (product transition transition) ∷ []

two_are_not_sizable : AreSizable two_transitions → ⊥
two_are_not_sizable sizable = let single = sizable.single.0 in omega (arith, single)

bound_of_two : greatest_bound {F = ℕ} 1 1 two_transitions ≡ 2
bound_of_two = refl

two_are_too_many : HasSmallBound two_transitions 0 0 0 → ⊥
two_are_too_many small = omega (arith, small)

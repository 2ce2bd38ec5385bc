use Rattle.std.proofs.Common.{List, [], ◌∷◌, ◌++◌}
use Rattle.stark_air.specs.Tree.{Constraint}
use Rattle.stark_air.proofs.Steps.{last_asserted, all_asserted, begun_asserted}
use Rattle.stark_samples.specs.Samples.{fibonacci_starts, fibonacci_moves, fibonacci_adds, fibonacci_ends}
use Rattle.stark_samples.proofs.fibonacci.FibonacciAirAir.eval.Goals as goal

abbrev starts : {F : Type 0} → List (Constraint F)
starts = fibonacci_starts 0 ∷ fibonacci_starts 1 ∷ []

abbrev steps : {F : Type 0} → List (Constraint F)
steps = fibonacci_moves ∷ fibonacci_adds ∷ []

abbrev ends : {F : Type 0} → List (Constraint F)
ends = fibonacci_ends ∷ []

pub returns-in_err-assert_starts-clause-asserted : goal.returns-in_err-assert_starts-clause-asserted
returns-in_err-assert_starts-clause-asserted g c =
    begun_asserted g.met.AB.BaseAirBuilder.emission_laws _ _ starts (steps ++ ends) _ c.from_residual.ensures.0 c.in_err-assert_starts.ensures.asserted

pub returns-in_err-assert_steps-clause-asserted : goal.returns-in_err-assert_steps-clause-asserted
returns-in_err-assert_steps-clause-asserted g c =
    let laws = g.met.AB.BaseAirBuilder.emission_laws in
    all_asserted laws _ _ _ starts (steps ++ ends) _ c.in_ok-assert_starts.ensures.asserted
    (begun_asserted laws _ _ steps ends _ c.from_residual-in_err-assert_steps.ensures.0 c.in_err-assert_steps.ensures.asserted)

pub returns-clause-asserted : goal.returns-clause-asserted
returns-clause-asserted g c =
    let laws = g.met.AB.BaseAirBuilder.emission_laws in
    all_asserted laws _ _ _ starts (steps ++ ends) _ c.in_ok-assert_starts.ensures.asserted
    (all_asserted laws _ _ _ steps ends _ c.in_ok-assert_steps.ensures.asserted (last_asserted laws _ _ ends _ c.assert_end.ensures.asserted c.assert_end.ensures.refused))

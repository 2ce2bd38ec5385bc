use Rattle.stark_air.specs.Value.{value}
use Rattle.stark_machine.specs.Machine.{digits}
use Rattle.stark_machine.proofs.results.digits.Given as goal

abbrev pub invariant-loop-place : goal.invariant-loop-place
invariant-loop-place g l =
    g.AB.Expr.Algebra.stands (value g.AB.Expr.Algebra.operations (g.AB.BaseAirBuilder.environment l.builder) (digits g.F.Element.ONE g.F.PrimeField64.of_number l.place)) l.number

use Rattle.std.proofs.Common.{◌≡◌, ℕ, arith, subst}
use Rattle.stark_air.specs.Value.{value}
use Rattle.stark_machine.specs.Machine.{digits}
use Rattle.stark_machine.proofs.results.digits.Goals as goal

pub returns-clause-value : goal.returns-clause-value
returns-clause-value g c =
    let all : c.loop-place.place ≡ 8 = omega arith in
    subst (λ (n : ℕ). g.AB.Expr.Algebra.stands (value g.AB.Expr.Algebra.operations (g.AB.BaseAirBuilder.environment c.args.builder.now) (digits g.F.Element.ONE g.F.PrimeField64.of_number n)) c.loop-place.number) all
    c.loop-place.invariant

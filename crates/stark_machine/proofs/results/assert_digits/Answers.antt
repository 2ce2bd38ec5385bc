use Rattle.stark_air.proofs.Steps.{if_ok_map}
use Rattle.stark_machine.specs.Machine.{digits}
use Rattle.stark_machine.proofs.results.assert_digits.Goals as goal

pub returns-clause-asserted : goal.returns-clause-asserted
returns-clause-asserted g c =
    if_ok_map c.assert_difference.result c.assert_difference.ensures.asserted (λ k. k (digits g.F.Element.ONE g.F.PrimeField64.of_number 8) c.in_ok-number.ensures.value)

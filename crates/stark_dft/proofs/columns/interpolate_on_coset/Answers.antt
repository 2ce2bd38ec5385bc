use Rattle.std.proofs.Common.{arith}
use Rattle.stark_dft.specs.ColumnFacts.{one_column}
use Rattle.stark_dft.proofs.columns.interpolate_on_coset.Goals as goal

pub returns-clause-number : goal.returns-clause-number
returns-clause-number g c = let number = c.in_ok-coefficients.ensures.number in omega (arith, number)

pub returns-clause-takes : goal.returns-clause-takes
returns-clause-takes g c =
    let number = c.in_ok-coefficients.ensures.number in
    one_column g.met.F.Field.field_laws.of_ring g.F.TwoAdicField.root _ c.in_ok-coefficients.coefficients.items c.args.values.now (omega (arith, number)) c.in_ok-coefficients.ensures.rows

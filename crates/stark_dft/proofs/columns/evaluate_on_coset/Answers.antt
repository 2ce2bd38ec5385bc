use Rattle.std.proofs.Common.{arith}
use Rattle.stark_dft.specs.RootFacts.{power_fits}
use Rattle.stark_dft.specs.ColumnFacts.{one_column}
use Rattle.stark_dft.proofs.columns.evaluate_on_coset.Goals as goal

pub evaluate_rows-requires-clause-fits : goal.evaluate_rows-requires-clause-fits
evaluate_rows-requires-clause-fits g c =
    let below = power_fits c.args.log_size c.args.log_size g.F.TwoAdicField.TWO_ADICITY (omega arith) c.requires.within g.met.F.TwoAdicField.two_adic.bounded in
    omega (arith, below)

pub returns : goal.returns
returns g c = one_column g.met.F.Field.field_laws.of_ring g.F.TwoAdicField.root _ c.args.coefficients.now c.in_ok-values.values.items c.requires.room c.in_ok-values.ensures

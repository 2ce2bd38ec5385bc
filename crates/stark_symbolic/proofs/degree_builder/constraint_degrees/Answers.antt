use Rattle.stark_symbolic.specs.DegreeBuilder.{collected_degrees, row_of_kinds}
use Rattle.stark_symbolic.proofs.degree_builder.constraint_degrees.Goals as goal

pub returns : goal.returns
returns g c =
    let made = c.in_ok-builder.ensures in
    collected_degrees c.args.first c.args.second _ _ _ (g.A.Air.constraints c.args.air.now) made.fits.0 made.fits.1 c.in_ok-eval.ensures.asserted.appended made.nothing
    (row_of_kinds c.args.first c.args.second c.in_ok-builder.builder _ made.column made.periodic made.boundary made.transition made.periodic_values)

use Rattle.std.proofs.Common.{◌≡◌, length, subst}
use Rattle.stark_lookup_air.specs.LookupConstraints.{light_trees}
use Rattle.stark_lookup_extension.specs.ExtendedAir.{WritesAuxiliary, WritesDraws}
use Rattle.stark_lookup_extension.specs.WrittenEquations.{WritesRow}
use Rattle.stark_lookup_extension.proofs.ExtendedSteps.{equations_steps}
use Rattle.stark_lookup_extension.proofs.Folding.{mapped_ok}
use Rattle.stark_lookup_extension.proofs.extended.written_equations.Goals as goal

pub returns : goal.returns
returns g c = mapped_ok _ _ c.row_equations.result c.row_equations.ensures (λ all made.
    equations_steps g.EF.ExtensionField.DIMENSION g.EF.Field.ring g.EF.ExtensionField.basis g.EF.ExtensionField.coordinates g.F.Field.ring c.args.list.now c.written_draws.new.list c.written_auxiliary.new.list c.row_equations.new.list c.args.own c.args.groups.now c.in_ok-draws.draws c.in_ok-auxiliary.auxiliary all.items
    c.in_ok-draws.ensures (subst (λ n. WritesAuxiliary n c.args.own.main (length c.args.groups.now) c.written_draws.new.list c.in_ok-auxiliary.auxiliary c.written_auxiliary.new.list) c.DIMENSION-size.ensures c.in_ok-auxiliary.ensures.auxiliary) made)

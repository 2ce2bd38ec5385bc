use Rattle.std.proofs.Common.{arith}
use Rattle.stark_machine.specs.Machine.{cell_next}
use Rattle.stark_machine.proofs.Loops.{each_all, each_one, each_some}
use Rattle.stark_machine.proofs.parts.assert_cells_next.Goals as goal

pub loop-cell-init : goal.loop-cell-init
loop-cell-init g c = g.met.AB.BaseAirBuilder.emission_laws.nothing _

pub loop-cell-preserved : goal.loop-cell-preserved
loop-cell-preserved g c =
    each_one g.met.AB.BaseAirBuilder.emission_laws cell_next 0 _ c.loop-cell.cell c.loop-cell.cell _ _ (omega arith) c.loop-cell.invariant c.in_ok-assert_cell_next.ensures.asserted

pub returns-in_err-assert_cell_next-clause-asserted : goal.returns-in_err-assert_cell_next-clause-asserted
returns-in_err-assert_cell_next-clause-asserted g c =
    each_some g.met.AB.BaseAirBuilder.emission_laws cell_next 0 _ c.loop-cell.cell 4 _ _ _ (omega arith) c.loop-cell.invariant c.from_residual.ensures.0 c.in_err-assert_cell_next.ensures.refused

pub returns-clause-asserted : goal.returns-clause-asserted
returns-clause-asserted g c =
    each_all g.met.AB.BaseAirBuilder.emission_laws cell_next 0 _ c.loop-cell.cell 4 _ (omega arith) c.loop-cell.invariant

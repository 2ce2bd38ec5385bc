use Rattle.std.proofs.Common.{◌++◌, map}
use Rattle.std.specs.List.{range_with_len}
use Rattle.stark_air.proofs.Steps.{all_asserted, begun_asserted}
use Rattle.stark_machine.specs.Machine.{cell_next, control, register_next}
use Rattle.stark_machine.proofs.parts.assert_next_row.Goals as goal

pub returns-in_err-assert_control-clause-asserted : goal.returns-in_err-assert_control-clause-asserted
returns-in_err-assert_control-clause-asserted g c =
    let laws = g.met.AB.BaseAirBuilder.emission_laws in
    begun_asserted laws _ _ (control g.F.Element.ONE) ((map register_next (range_with_len 0 4)) ++ (map cell_next (range_with_len 0 4))) _ c.from_residual.ensures.0 c.in_err-assert_control.ensures.asserted

pub returns-in_err-assert_registers_next-clause-asserted : goal.returns-in_err-assert_registers_next-clause-asserted
returns-in_err-assert_registers_next-clause-asserted g c =
    let laws = g.met.AB.BaseAirBuilder.emission_laws in
    all_asserted laws _ _ _ (control g.F.Element.ONE) ((map register_next (range_with_len 0 4)) ++ (map cell_next (range_with_len 0 4))) _ c.in_ok-assert_control.ensures.asserted
    (begun_asserted laws _ _ (map register_next (range_with_len 0 4)) ((map cell_next (range_with_len 0 4))) _ c.from_residual-in_err-assert_registers_next.ensures.0 c.in_err-assert_registers_next.ensures.asserted)

pub returns-clause-asserted : goal.returns-clause-asserted
returns-clause-asserted g c =
    let laws = g.met.AB.BaseAirBuilder.emission_laws in
    all_asserted laws _ _ _ (control g.F.Element.ONE) ((map register_next (range_with_len 0 4)) ++ (map cell_next (range_with_len 0 4))) _ c.in_ok-assert_control.ensures.asserted
    (all_asserted laws _ _ _ (map register_next (range_with_len 0 4)) ((map cell_next (range_with_len 0 4))) _ c.in_ok-assert_registers_next.ensures.asserted
    c.assert_cells_next.ensures.asserted)

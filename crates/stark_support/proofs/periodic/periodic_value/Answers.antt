use Rattle.std.proofs.Common.{◌∙◌, ◌/◌, ap, length, sym, subst}
use Rattle.stark_support.specs.Interpolation.{interpolation}
use Rattle.stark_support.specs.PeriodicValueFacts.{divides, order_of_period}
use Rattle.stark_support.specs.Points.{powers_from}
use Rattle.stark_support.specs.Polynomial.{value_over}
use Rattle.stark_support.specs.Powers.{power}
use Rattle.stark_support.specs.TwoAdic.{HasOrder}
use Rattle.stark_support.proofs.periodic.periodic_value.Goals as goal

pub value_through-requires-clause-order : goal.value_through-requires-clause-order
value_through-requires-clause-order g c =
    let column = c.args.column.now in
    let ratio = divides (length column) c.args.height c.requires.power c.requires.height c.requires.within in
    subst (λ t. HasOrder g.F.Field.ring t (length column)) (sym c.power_of.ensures)
    (order_of_period g.met.F.Field.field_laws.of_ring c.args.generator c.args.height c.requires.order (length column) (c.args.height / length column) ratio.0 ratio.1)

pub returns : goal.returns
returns g c =
    let ring = g.F.Field.ring in
    let above = g.EF.Field.ring in
    let embed = g.EF.ExtensionField.embed in
    let column = c.args.column.now in
    let through = λ (h : g.row.F.Denot) (y : g.row.EF.Denot). value_over above embed (interpolation ring g.F.Field.inverse_of (powers_from ring h 0 (length column)) column) y in
    c.in_ok-value.ensures ∙ ap (λ h. through h c.power_of-2.result) c.power_of.ensures ∙ ap (through (power ring c.args.generator (c.args.height / length column))) c.power_of-2.ensures

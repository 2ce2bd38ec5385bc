use Rattle.std.proofs.Common.{sym}
use Rattle.std.proofs.lemmas.Option.{get_or_from_slice_get}
use Rattle.stark_support.proofs.Loops.{one_more_mapped}
use Rattle.stark_support.proofs.Places.{all_mapped_front}
use Rattle.stark_fri_prover.specs.Words.{coordinate_at}
use Rattle.stark_fri_prover.proofs.layers.coordinate_column.Goals as goal

pub loop-element-preserved : goal.loop-element-preserved
loop-element-preserved g c =
    let item = c.element-item.result in
    one_more_mapped (coordinate_at g.EF.ExtensionField.coordinates g.F.Field.ring.zero c.args.place) c.args.elements.now c.loop-element.element-index item c.loop-element-test.true c.element-item.is
    c.loop-element.column.items _ c.coordinate.result (sym (get_or_from_slice_get (g.EF.ExtensionField.coordinates item) c.args.place c.coordinate.result g.F.Field.ring.zero c.coordinate.ensures))
    c.in_ok-push.ensures.items c.loop-element.invariant

pub returns : goal.returns
returns g c = all_mapped_front c.loop-element.column.items (coordinate_at g.EF.ExtensionField.coordinates g.F.Field.ring.zero c.args.place) c.args.elements.now c.loop-element.element-index c.loop-element-test.false c.loop-element.invariant

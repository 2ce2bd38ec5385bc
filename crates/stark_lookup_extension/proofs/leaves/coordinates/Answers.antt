use Rattle.std.proofs.Common.{◌≡◌, ◌∙◌, ◌++◌, [], ap, arith, rules, sym, take}
use Rattle.std.proofs.lemmas.List.{take_all}
use Rattle.stark_support.proofs.Coordinates.{one_more_pushed}
use Rattle.stark_lookup_extension.proofs.leaves.coordinates.Goals as goal

pub loop-index-preserved : goal.loop-index-preserved
loop-index-preserved g c =
    one_more_pushed _ c.loop-index.all.items [] (g.EF.ExtensionField.coordinates c.args.x) c.loop-index.index c.coordinate.result c.in_ok-push.ensures.items c.loop-index.invariant c.coordinate.ensures

pub returns : goal.returns
returns g c =
    let count = g.met.EF.ExtensionField.is_basis.count c.args.x in
    c.loop-index.invariant ∙ take_all c.loop-index.index (g.EF.ExtensionField.coordinates c.args.x) (omega (arith, count, c.loop-index-test.false))

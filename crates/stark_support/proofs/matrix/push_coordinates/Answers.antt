use Rattle.std.proofs.lemmas.Grind.{common_steps}
use Rattle.std.proofs.Common.{rules, arith}
use Rattle.stark_support.proofs.Coordinates.{one_more_pushed}
use Rattle.stark_support.proofs.matrix.push_coordinates.Goals as goal

pub loop-index-preserved : goal.loop-index-preserved
loop-index-preserved g c =
    one_more_pushed c.push.new.self.items c.loop-index.values.items c.args.values.now.items (g.EF.ExtensionField.coordinates c.args.x) c.loop-index.index c.coordinate.result
    c.in_ok-push.ensures.items c.loop-index.invariant c.coordinate.ensures

pub returns-in_err-push : goal.returns-in_err-push
returns-in_err-push g c = search rules

pub returns : goal.returns
returns g c = grind (arith, common_steps)

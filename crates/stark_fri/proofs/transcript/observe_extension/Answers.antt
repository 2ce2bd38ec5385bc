use Rattle.std.proofs.Common.{arith, sym}
use Rattle.std.proofs.lemmas.Option.{get_or_from_slice_get, slice_get_within}
use Rattle.stark_fri.proofs.ObserveSteps.{all_observed_as_they_are, one_more_as_it_is}
use Rattle.stark_fri.proofs.transcript.observe_extension.Goals as goal

pub loop-index-preserved : goal.loop-index-preserved
loop-index-preserved g c =
    let xs = g.EF.ExtensionField.coordinates c.args.x in
    let i = c.loop-index.index in
    let x = c.coordinate.result in
    one_more_as_it_is g.C.CanObserve-1.after_observe xs i x c.loop-index.challenger c.observe.new.self _ (slice_get_within xs i x c.coordinate.ensures)
    (sym (get_or_from_slice_get xs i x x c.coordinate.ensures)) c.observe.ensures c.loop-index.invariant

pub returns : goal.returns
returns g c =
    let count = g.met.EF.ExtensionField.is_basis.count c.args.x in
    let end = c.DIMENSION-index-end.ensures in
    let ended = c.loop-index-test.false in
    all_observed_as_they_are g.C.CanObserve-1.after_observe (g.EF.ExtensionField.coordinates c.args.x) c.loop-index.index c.loop-index.challenger _
    (omega (arith, count, end, ended)) c.loop-index.invariant

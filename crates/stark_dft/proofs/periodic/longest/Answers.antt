use Rattle.std.proofs.Common.{◌∙◌, ◌<◌, ap, arith, map, max}
use Rattle.std.proofs.lemmas.List.{length-map}
use Rattle.std.proofs.lemmas.Option.{slice_get_within}
use Rattle.stark_dft.specs.Columns.{column_list}
use Rattle.stark_dft.proofs.PeriodicSteps.{mapped_here, one_more_length}
use Rattle.stark_dft.proofs.periodic.longest.Goals as goal

pub loop-list-preserved : goal.loop-list-preserved
loop-list-preserved g c =
    let lists = c.args.lists.now in
    let i = c.loop-list.list-index in
    let list = c.list-item.result in
    let here = mapped_here column_list lists i list c.loop-list-test.true c.list-item.is in
    one_more_length (map column_list lists) i c.loop-list.longest c.max-longest.result list.items here (c.requires i list.items here)
    (c.max-longest.ensures ∙ ap (max c.loop-list.longest) (c.len.ensures ∙ list.ok.0)) c.loop-list.invariant.0 c.loop-list.invariant.1

pub returns-clause-none_longer : goal.returns-clause-none_longer
returns-clause-none_longer g c = λ k list there.
    let lists = c.args.lists.now in
    let ended = c.loop-list-test.false in
    let within = slice_get_within (map column_list lists) k list there in
    let below : k < c.loop-list.list-index = omega (arith, ended, within, length-map lists column_list) in
    c.loop-list.invariant.1 k list below there

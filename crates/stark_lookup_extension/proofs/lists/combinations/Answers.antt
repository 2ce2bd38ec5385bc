use Rattle.std.proofs.Common.{refl, rules, subst}
use Rattle.std.proofs.lemmas.Option.{slice_get-get_or, slice_get_read}
use Rattle.stark_lookup_air.specs.LookupConstraints.{light_trees}
use Rattle.stark_lookup_extension.specs.Written.{Stand, WritesCombination}
use Rattle.stark_logup.specs.Coordinates.{combination}
use Rattle.stark_lookup_extension.proofs.Loops.{begun_all, begun_none, begun_one}
use Rattle.stark_lookup_extension.proofs.ListSteps.{Row, Rows, all_rows_kept, row_kept}
use Rattle.stark_lookup_extension.proofs.Steps.{stand_kept}
use Rattle.stark_lookup_extension.proofs.lists.combinations.Goals as goal

pub loop-row-init : goal.loop-row-init
loop-row-init g c same = begun_none Stand Rows Row (combination (light_trees same g.F.Field.ring)) c.args.list.now c.args.xs.now c.args.table.now _ (search rules)

pub loop-row-preserved : goal.loop-row-preserved
loop-row-preserved g c same =
    begun_one Stand Rows Row (combination (light_trees same g.F.Field.ring)) stand_kept all_rows_kept row_kept c.args.list.now c.loop-row.list c.combination.new.list c.args.xs.now c.args.table.now c.loop-row.row-index c.row-item.result c.in_ok-list_of_row.list_of_row c.loop-row.all.items _
    (slice_get_read _ _ _ _ refl c.loop-row-test.true c.row-item.is) c.in_ok-push.ensures.items (c.loop-row.invariant same)
    (subst (λ rows. WritesCombination g.F.Field.ring c.loop-row.list c.args.xs.now rows c.in_ok-list_of_row.list_of_row.items c.combination.new.list) c.deref.ensures.value c.in_ok-list_of_row.ensures same)

pub returns : goal.returns
returns g c same = begun_all Stand Rows Row (combination (light_trees same g.F.Field.ring)) c.args.list.now c.loop-row.list c.args.xs.now c.args.table.now c.loop-row.row-index c.loop-row.all.items c.loop-row-test.false (c.loop-row.invariant same)

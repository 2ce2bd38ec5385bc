use Rattle.std.proofs.Common.{◌+◌, ap, map, refl, rules}
use Rattle.std.proofs.lemmas.Option.{slice_get_read}
use Rattle.stark_lookup_rows.specs.Cut.{entry_view, interaction_size}
use Rattle.stark_lookup_rows.proofs.CutSteps.{from_here, pushed}
use Rattle.stark_lookup_rows.proofs.CuttingSteps.{all_cut, begun, one_more}
use Rattle.stark_lookup_rows.proofs.cut.group_from.Goals as goal

pub loop-given-init : goal.loop-given-init
loop-given-init g c = begun _ _ _ _ _ _ _ _ _ refl (ap (map entry_view) c.in_ok-all.ensures.items) c.requires

pub loop-given-preserved : goal.loop-given-preserved
loop-given-preserved g c =
    one_more _ _ _ _ _ _ _ _ _ _ _ _ _ _ _ (slice_get_read _ _ _ _ refl c.loop-given-test.true c.given-item.is) c.loop-given.invariant refl (pushed entry_view _ _ _ _ c.in_ok-push.ensures.items c.in_ok-entry_from.ensures)
    (from_here c.loop-given.rest.now (c.len.result + 1) (interaction_size c.given-item.result) (search rules))

pub returns-clause-entries : goal.returns-clause-entries
returns-clause-entries g c = (all_cut _ _ _ _ _ _ _ _ _ _ _ c.loop-given-test.false c.loop-given.invariant).0

pub returns-clause-rest : goal.returns-clause-rest
returns-clause-rest g c = (all_cut _ _ _ _ _ _ _ _ _ _ _ c.loop-given-test.false c.loop-given.invariant).1

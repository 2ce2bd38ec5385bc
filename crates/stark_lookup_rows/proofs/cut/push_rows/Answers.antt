use Rattle.std.proofs.Common.{◌∙◌, ◌++◌, ap, arith, map, refl}
use Rattle.stark_lookup_rows.specs.Cut.{cut_lookups, entries_view}
use Rattle.stark_lookup_rows.proofs.CutSteps.{from_here}
use Rattle.stark_lookup_rows.proofs.RowsInTurn.{all_cut_below, none_cut, one_cut}
use Rattle.stark_lookup_rows.proofs.cut.push_rows.Goals as goal

pub loop-init : goal.loop-init
loop-init g c = none_cut _ _ _ _

pub loop-preserved : goal.loop-preserved
loop-preserved g c =
    let cut = cut_lookups g.F.Field.ring c.args.given.now.width in
    one_cut (cut c.args.given.now.lookups.items) _ _ _ _ _ _ _ _ c.loop.invariant (c.in_ok-push_lookups.ensures ∙ ap (λ xs. map entries_view c.loop.all.items ++ cut xs c.loop.rest.now) c.deref.ensures.value) (from_here c.loop.rest.now _ _ refl)

pub returns : goal.returns
returns g c = let past = c.loop-test.false in let within = c.loop.auto.counter-end in all_cut_below _ _ _ _ c.args.rows c.loop.counter _ _ (omega (arith, past, within)) c.loop.invariant

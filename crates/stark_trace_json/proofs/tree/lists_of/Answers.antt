use Rattle.std.proofs.Common.{◌∙◌, ◌∷◌, [], Some, ap, arith, map, sym}
use Rattle.std.proofs.lemmas.List.{length-map, map-append, take_all}
use Rattle.serde_json.specs.View.{items_of, view}
use Rattle.stark_support.specs.Json.{array_at, each_at}
use Rattle.stark_trace_json.proofs.Items.{each_more, fault_of_items, view_at}
use Rattle.stark_trace_json.proofs.tree.lists_of.Goals as goal

pub loop-row-init : goal.loop-row-init
loop-row-init g c = ap (λ xs. Some (map (λ list. list.items) xs)) (sym c.new-lists.ensures.items)

pub loop-row-preserved : goal.loop-row-preserved
loop-row-preserved g c =
    each_more (array_at g.F.JsonCodec.reading) c.args.values.now c.loop-row.row c.index-values-row.result (map (λ list. list.items) c.loop-row.lists.items) c.in-Ok.list.items c.loop-row-test.true c.index-values-row.is c.loop-row.invariant c.in-Ok.ensures
    ∙ ap Some (sym (ap (map (λ list. list.items)) c.in_ok-push-in-Ok.ensures.items ∙ map-append (λ list. list.items) c.loop-row.lists.items (c.in-Ok.list ∷ [])))

pub returns : goal.returns
returns g c =
    sym (ap (λ ds. each_at (array_at g.F.JsonCodec.reading) (items_of ds)) (take_all c.loop-row.row (map view c.args.values.now) (omega (arith, length-map c.args.values.now view)))) ∙ c.loop-row.invariant

pub returns-in-Err : goal.returns-in-Err
returns-in-Err g c =
    fault_of_items g.F.JsonCodec.reading (map view c.args.values.now) c.loop-row.row (map (λ list. list.items) c.loop-row.lists.items) (view c.index-values-row.result) c.loop-row.invariant
    (view_at c.args.values.now c.loop-row.row c.index-values-row.result c.loop-row-test.true c.index-values-row.is) c.in-Err.fault c.in-Err.ensures

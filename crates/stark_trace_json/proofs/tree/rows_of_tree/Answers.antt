use Rattle.std.proofs.Common.{◌∙◌, Some, ap, map, sym}
use Rattle.serde_json.specs.View.{items_view, view}
use Rattle.stark_trace_json.proofs.Even.{rows_read, said_of_lengths}
use Rattle.stark_trace_json.proofs.tree.rows_of_tree.Goals as goal

pub returns : goal.returns
returns g c =
    let rows = map (λ list. list.items) c.in-Ok-lists_of.lists.items in
    let items = sym c.in-Some.ensures ∙ ap (λ vs. Some (items_view vs)) (sym c.deref.ensures.value) in
    said_of_lengths g.F.JsonCodec.reading c.args.bytes.now rows
    (rows_read g.F.JsonCodec.reading c.args.bytes.now (view c.in-Ok.value) (map view c.deref.result.now) rows c.in-Ok.ensures items c.in-Ok-lists_of.ensures)
    c.rows_of_lists.result (rw c.deref-2.ensures.value at c.rows_of_lists.ensures)

use Rattle.std.proofs.Common.{◌≡◌, ◌∙◌, ap, codes}
use Rattle.serde_json.proofs.Views.{view-Object}
use Rattle.serde_json.specs.Data.{object}
use Rattle.serde_json.specs.View.{view}
use Rattle.serde_json.specs.declared.value.Value.{Object}
use Rattle.stark_tree_air.specs.TreeJson.{air_reading, air_view, air_writing, list_view, list_writing, with_number}
use Rattle.stark_tree_air.proofs.JsonReadBack.{air_back, matrix_whole, no_view_fault}
use Rattle.stark_tree_air.proofs.air.TreeAir.to_json.Goals as goal

pub returns-clause-read_back : goal.returns-clause-read_back
unfolding air_writing
returns-clause-read_back g c =
    let air = c.args.self.now in
    let d = air.declaration in
    let columns = d.columns in
    let codec = g.F.JsonCodec in
    let written : view (Object c.put_number-2.new.map) ≡ air_writing codec.writing (air_view d air.list) =
    view-Object c.put_number-2.new.map ∙
    ap object
    (c.in_ok-put_number-2.ensures ∙
    ap (with_number (codes "num_constraints") d.num_constraints)
    (c.in_ok-put_number.ensures ∙
    ap (with_number (codes "max_constraint_degree") d.max_constraint_degree) (c.in_ok-put_list.ensures ∙ ap (list_writing codec.writing (list_view air.list)) c.in_ok-map.ensures))) in
    ap (air_reading codec.reading) written ∙
    air_back codec.reading codec.writing g.met.F.JsonCodec.reads_back (air_view d air.list) (matrix_whole columns.preprocessed_trace) (no_view_fault columns air.list air.without_fault)

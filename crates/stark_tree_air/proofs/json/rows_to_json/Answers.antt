use Rattle.std.proofs.Common.{◌∙◌, ap}
use Rattle.serde_json.specs.View.{view}
use Rattle.stark_support.specs.JsonFacts.{list_written}
use Rattle.stark_tree_air.specs.Traces.{matrix_trace}
use Rattle.stark_tree_air.specs.TreeJson.{trace_row}
use Rattle.stark_tree_air.proofs.JsonSteps.{rows_more}
use Rattle.stark_tree_air.proofs.json.rows_to_json.Goals as goal

pub loop-r-preserved : goal.loop-r-preserved
loop-r-preserved g c =
    let writing = g.F.JsonCodec.writing in
    rows_more view (list_written writing) (trace_row writing (matrix_trace c.args.trace.now)) c.loop-r.rows.items c.push.new.self.items c.in_ok-list_to_json.field-0 c.loop-r.r c.loop-r.invariant c.in_ok-push.ensures.items
    (c.in_ok-list_to_json.ensures ∙ ap (list_written writing) c.row.ensures)

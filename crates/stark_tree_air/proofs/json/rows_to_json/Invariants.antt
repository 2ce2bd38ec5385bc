use Rattle.std.proofs.Common.{◌≡◌, map}
use Rattle.std.specs.List.{range_with_len}
use Rattle.serde_json.specs.View.{view}
use Rattle.stark_support.specs.JsonFacts.{list_written}
use Rattle.stark_tree_air.specs.Traces.{matrix_trace}
use Rattle.stark_tree_air.specs.TreeJson.{trace_row}
use Rattle.stark_tree_air.proofs.json.rows_to_json.Given as goal

abbrev pub invariant-loop-r : goal.invariant-loop-r
invariant-loop-r g l = map view l.rows.items ≡ map (list_written g.F.JsonCodec.writing) (map (trace_row g.F.JsonCodec.writing (matrix_trace l.trace)) (range_with_len 0 l.r))

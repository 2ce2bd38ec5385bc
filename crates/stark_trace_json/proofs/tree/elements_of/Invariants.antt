use Rattle.std.proofs.Common.{◌≡◌, Some, map, take}
use Rattle.serde_json.specs.View.{items_of, view}
use Rattle.stark_support.specs.Json.{each_at}
use Rattle.stark_trace_json.proofs.tree.elements_of.Given as goal

abbrev pub invariant-loop-column : goal.invariant-loop-column
invariant-loop-column g l = each_at g.F.JsonCodec.reading (items_of (take l.column (map view l.values))) ≡ Some l.elements.items

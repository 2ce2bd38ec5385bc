use Rattle.std.proofs.Common.{◌≡◌, Some, map, take}
use Rattle.serde_json.specs.View.{items_of, view}
use Rattle.stark_support.specs.Json.{array_at, each_at}
use Rattle.stark_trace_json.proofs.tree.lists_of.Given as goal

abbrev pub invariant-loop-row : goal.invariant-loop-row
invariant-loop-row g l = each_at (array_at g.F.JsonCodec.reading) (items_of (take l.row (map view l.values))) ≡ Some (map (λ list. list.items) l.lists.items)

use Rattle.std.proofs.Common.{◌≡◌, drop, map}
use Rattle.serde_json.specs.View.{items_view}
use Rattle.stark_support.specs.Json.{each_at, array_at}
use Rattle.stark_support.proofs.Readings.{with_front}
use Rattle.stark_support.proofs.json.each_list_from_json.Given as goal

abbrev pub invariant-loop-value : goal.invariant-loop-value
invariant-loop-value g l = with_front (map (λ list. list.items) l.lists.items) (each_at (array_at g.T.JsonCodec.reading) (items_view (drop l.value-index l.values))) ≡ each_at (array_at g.T.JsonCodec.reading) (items_view l.values)

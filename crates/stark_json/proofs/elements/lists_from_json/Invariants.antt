use Rattle.std.proofs.Common.{◌≡◌, drop, map}
use Rattle.serde_json.specs.View.{items_view}
use Rattle.stark_json.specs.Elements.{lists_from}
use Rattle.stark_json.proofs.ElementSteps.{with_front}
use Rattle.stark_json.proofs.elements.lists_from_json.Given as goal

abbrev pub invariant-loop-index : goal.invariant-loop-index
invariant-loop-index g l = with_front (map (λ list. list.items) l.lists.items) (lists_from g.T.JsonCodec.reading l.index (items_view (drop l.index l.values))) ≡ lists_from g.T.JsonCodec.reading 0 (items_view l.values)

use Rattle.std.proofs.Common.{◌≡◌, drop}
use Rattle.serde_json.specs.View.{items_view}
use Rattle.stark_json.specs.Elements.{elements_from}
use Rattle.stark_json.proofs.ElementSteps.{with_front}
use Rattle.stark_json.proofs.elements.elements_from_json.Given as goal

abbrev pub invariant-loop-index : goal.invariant-loop-index
invariant-loop-index g l = with_front l.elements.items (elements_from g.T.JsonCodec.reading l.index (items_view (drop l.index l.values))) ≡ elements_from g.T.JsonCodec.reading 0 (items_view l.values)

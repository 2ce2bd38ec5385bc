use Rattle.std.proofs.Common.{◌≡◌, drop, map}
use Rattle.serde_json.specs.View.{items_of}
use Rattle.stark_json.specs.Apart.{number_data}
use Rattle.stark_json.specs.Elements.{elements_from}
use Rattle.stark_json.proofs.ElementSteps.{with_front}
use Rattle.stark_json.proofs.elements.elements_of_numbers.Given as goal

abbrev pub invariant-loop-index : goal.invariant-loop-index
invariant-loop-index g l = with_front l.elements.items (elements_from g.T.JsonCodec.reading l.index (items_of (map number_data (drop l.index l.numbers)))) ≡ elements_from g.T.JsonCodec.reading 0 (items_of (map number_data l.numbers))

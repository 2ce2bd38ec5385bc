use Rattle.std.proofs.Common.{◌≡◌, take, map}
use Rattle.serde_json.specs.View.{view}
use Rattle.stark_fri_proof.proofs.lists.list_to_json.Given as goal

abbrev pub invariant-loop-element : goal.invariant-loop-element
invariant-loop-element g l = map view l.values.items ≡ map g.T.JsonCodec.writing (take l.element-index l.list)

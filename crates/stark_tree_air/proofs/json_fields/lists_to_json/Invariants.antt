use Rattle.std.proofs.Common.{◌≡◌, take, map}
use Rattle.serde_json.specs.View.{view}
use Rattle.stark_support.specs.JsonFacts.{list_written}
use Rattle.stark_tree_air.proofs.json_fields.lists_to_json.Given as goal

abbrev pub invariant-loop-list : goal.invariant-loop-list
invariant-loop-list g l = map view l.values.items ≡ map (list_written g.T.JsonCodec.writing) (map (λ list. list.items) (take l.list-index l.lists))

use Rattle.std.proofs.Common.{◌≡◌, take, map}
use Rattle.serde_json.specs.View.{view}
use Rattle.stark_merkle.specs.Tree.{items_of}
use Rattle.stark_support.specs.JsonFacts.{list_written}
use Rattle.stark_fri_proof.proofs.lists.rows_to_json.Given as goal

abbrev pub invariant-loop-row : goal.invariant-loop-row
invariant-loop-row g l = map view l.values.items ≡ map (list_written g.T.JsonCodec.writing) (map items_of (take l.row-index l.rows))

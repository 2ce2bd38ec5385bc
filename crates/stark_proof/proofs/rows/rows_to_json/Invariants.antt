use Rattle.std.proofs.Common.{◌≡◌, take, map}
use Rattle.serde_json.specs.View.{view}
use Rattle.stark_proof.proofs.rows.rows_to_json.Given as goal
use Rattle.stark_support.specs.JsonFacts.{list_written}

abbrev pub invariant-loop-row : goal.invariant-loop-row
invariant-loop-row g l = map view l.values.items ≡ map (list_written g.E.JsonCodec.writing) (map (λ row. row.items) (take l.row-index l.rows))

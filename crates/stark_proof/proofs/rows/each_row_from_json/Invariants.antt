use Rattle.std.proofs.Common.{◌≡◌, drop, map}
use Rattle.serde_json.specs.View.{items_view}
use Rattle.stark_proof.specs.ProofJson.{each_of, row_at}
use Rattle.stark_proof.proofs.RowFacts.{with_rows}
use Rattle.stark_proof.proofs.rows.each_row_from_json.Given as goal

abbrev pub invariant-loop-value : goal.invariant-loop-value
invariant-loop-value g l = with_rows (map (λ row. row.items) l.rows.items) (each_of (row_at g.E.JsonCodec.reading l.field) (items_view (drop l.value-index l.values))) ≡ each_of (row_at g.E.JsonCodec.reading l.field) (items_view l.values)

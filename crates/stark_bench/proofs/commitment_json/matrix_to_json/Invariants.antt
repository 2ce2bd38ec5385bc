use Rattle.std.proofs.Common.{◌≡◌, take, map}
use Rattle.serde_json.specs.View.{view}
use Rattle.stark_support.specs.JsonFacts.{list_written}
use Rattle.stark_bench.proofs.commitment_json.matrix_to_json.Given as goal

abbrev pub invariant-loop-column : goal.invariant-loop-column
invariant-loop-column g l = map view l.columns.items ≡ map (list_written g.F.JsonCodec.writing) (map (λ column. column.items) (take l.column-index l.matrix))

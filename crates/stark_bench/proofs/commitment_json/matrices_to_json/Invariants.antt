use Rattle.std.proofs.Common.{◌≡◌, take, map}
use Rattle.serde_json.specs.View.{view}
use Rattle.stark_support.specs.JsonFacts.{list_written}
use Rattle.stark_bench.proofs.commitment_json.matrices_to_json.Given as goal

abbrev pub invariant-loop-matrix : goal.invariant-loop-matrix
invariant-loop-matrix g l = map view l.values.items ≡ map (list_written (list_written g.F.JsonCodec.writing)) (map (λ matrix. map (λ column. column.items) matrix.items) (take l.matrix-index l.matrices))

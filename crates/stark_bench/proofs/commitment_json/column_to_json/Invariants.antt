use Rattle.std.proofs.Common.{◌≡◌, take, map}
use Rattle.serde_json.specs.View.{view}
use Rattle.stark_bench.proofs.commitment_json.column_to_json.Given as goal

abbrev pub invariant-loop-coefficient : goal.invariant-loop-coefficient
invariant-loop-coefficient g l = map view l.coefficients.items ≡ map g.F.JsonCodec.writing (take l.coefficient-index l.column)

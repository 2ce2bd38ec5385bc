use Rattle.std.proofs.Common.{◌≡◌, ◌++◌, List}
use Rattle.stark_trace_json.specs.Scanned.{AreElements, ahead}
use Rattle.stark_trace_json.proofs.table.read_row.Given as goal

abbrev pub invariant-loop : goal.invariant-loop
invariant-loop g l = (row : List g.row.F.Denot) × (l.values.items ≡ l.fn.values.items ++ row) × AreElements g.F.JsonCodec.reading row (ahead l.initial.items) (ahead l.items)

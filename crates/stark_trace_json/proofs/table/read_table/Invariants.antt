use Rattle.std.proofs.Common.{List}
use Rattle.stark_trace_json.specs.Rows.{AreRows}
use Rattle.stark_trace_json.specs.Scanned.{AreRowsAhead, ahead}
use Rattle.stark_trace_json.proofs.table.read_table.Given as goal

abbrev pub invariant-loop-height : goal.invariant-loop-height
invariant-loop-height g l = (rows : List (List g.row.F.Denot)) × AreRows l.values.items l.height l.width rows × AreRowsAhead g.F.JsonCodec.reading rows (ahead l.initial.scanner) (ahead l.scanner)

use Rattle.std.proofs.Common.{arith}
use Rattle.stark_json.proofs.SoFar.{array_read}
use Rattle.stark_json.proofs.rows.read_rows.Goals as goal

pub returns-clause-read : goal.returns-clause-read
returns-clause-read c =
    array_read c.args.depth c.args.reader.now c.open.new.reader c.read_more.new.reader _ (omega arith) c.in_ok-open.ensures c.in_ok-rows.ensures.read

use Rattle.std.proofs.Common.{arith}
use Rattle.stark_json.proofs.SoFar.{array_read}
use Rattle.stark_json.proofs.rows.read_row.Goals as goal

pub returns-clause-read : goal.returns-clause-read
returns-clause-read c =
    let read = c.in_ok-read_numbers.ensures.read in
    (read.0, read.1, array_read c.args.depth c.args.reader.now c.open.new.reader c.read_numbers.new.reader _ (omega arith) c.in_ok-open.ensures read.2)

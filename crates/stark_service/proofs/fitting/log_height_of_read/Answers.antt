use Rattle.std.proofs.Common.{rules}
use Rattle.stark_service.proofs.FittingRows.{other_height}
use Rattle.stark_service.proofs.fitting.log_height_of_read.Goals as goal

pub returns-then-log_height-log_rows-clause-none : goal.returns-then-log_height-log_rows-clause-none
returns-then-log_height-log_rows-clause-none g c = λ none list has.
    other_height c.args.shape c.args.log_rows c.args.greatest list c.args.statement.now.public_values.items c.args.rows.now.height c.in-Some.log_height has.height c.in-Some.ensures.some (search rules) (search rules)

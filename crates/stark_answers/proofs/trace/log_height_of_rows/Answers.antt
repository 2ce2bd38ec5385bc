use Rattle.std.proofs.Common.{length, refl, rules}
use Rattle.stark_answers.proofs.TraceShapes.{other_height}
use Rattle.stark_answers.proofs.trace.log_height_of_rows.Goals as goal

pub returns-then-log_height-log_rows-clause-none : goal.returns-then-log_height-log_rows-clause-none
returns-then-log_height-log_rows-clause-none g c = λ none.
    other_height c.args.shape c.args.log_rows c.args.greatest c.args.rows.now c.args.public_values.now (length c.args.rows.now) c.in_ok-log_height.log_height refl c.in_ok-log_height.ensures.some (search rules) (search rules)

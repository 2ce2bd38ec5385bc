use Rattle.std.proofs.Common.{◌/◌, ap}
use Rattle.stark_quotient.proofs.quotient.rows_to_next.Goals as goal

pub returns : goal.returns
returns g c = ap (λ n. c.args.size / n) c.points_of.ensures.size

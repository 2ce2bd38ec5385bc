use Rattle.std.proofs.Common.{rules}
use Rattle.stark_verifier.proofs.claims.row_points.Goals as goal

pub returns-in-None : goal.returns-in-None
returns-in-None g c = search rules

pub returns-in_err-push : goal.returns-in_err-push
returns-in_err-push g c = search rules

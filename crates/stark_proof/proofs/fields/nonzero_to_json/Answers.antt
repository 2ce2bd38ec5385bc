use Rattle.std.proofs.Common.{rules}
use Rattle.stark_proof.proofs.fields.nonzero_to_json.Goals as goal

pub returns : goal.returns
returns g c = search rules

pub returns-in_err-written : goal.returns-in_err-written
returns-in_err-written g c = search rules

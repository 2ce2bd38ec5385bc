use Rattle.std.proofs.Common.{rules}
use Rattle.stark_proof.proofs.openings.preprocessed_rows.Goals as goal

pub returns : goal.returns
returns g c = search rules

use Rattle.std.proofs.Common.{rules}
use Rattle.stark_verifier.proofs.opened.check_witness.Goals as goal

pub returns : goal.returns
returns c = search rules

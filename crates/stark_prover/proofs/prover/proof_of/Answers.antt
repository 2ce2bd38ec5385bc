use Rattle.std.proofs.Common.{rules}
use Rattle.stark_prover.proofs.prover.proof_of.Goals as goal

pub returns : goal.returns
returns g c = search rules

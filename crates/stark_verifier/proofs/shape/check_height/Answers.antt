use Rattle.std.proofs.Common.{rules}
use Rattle.stark_verifier.proofs.shape.check_height.Goals as goal

pub returns-clause-domains : goal.returns-clause-domains
returns-clause-domains g c = record { is_trace = search rules; is_committed = search rules }

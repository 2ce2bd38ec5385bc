use Rattle.std.proofs.Common.{rules}
use Rattle.stark_verifier.proofs.shape.check_quotient.Goals as goal

pub returns-clause-quotient : goal.returns-clause-quotient
returns-clause-quotient g c = record { is_domain = search rules; is_count = search rules; few = search rules }

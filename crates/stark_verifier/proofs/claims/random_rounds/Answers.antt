use Rattle.std.proofs.Common.{rules}
use Rattle.stark_verifier.proofs.claims.random_rounds.Goals as goal

pub returns-in_default : goal.returns-in_default
returns-in_default g c = search rules

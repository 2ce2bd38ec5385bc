use Rattle.std.proofs.Common.{rules, inr}
use Rattle.stark_protocol.specs.OpenedClaims.{refused}
use Rattle.stark_verifier.proofs.openings.check_openings.Goals as goal

pub returns-in-Err-Refused-clause-verdict : goal.returns-in-Err-Refused-clause-verdict
returns-in-Err-Refused-clause-verdict g c = record { holds = tt; fault = inr (refused (search rules)) }

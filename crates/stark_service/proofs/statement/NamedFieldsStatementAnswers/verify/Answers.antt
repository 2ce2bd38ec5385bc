use Rattle.std.proofs.Common.{refl}
use Rattle.stark_service.proofs.ReadSteps.{holds_of_bytes, said_of_configured, said_unconfigured, unconfigured_accepts_none}
use Rattle.stark_service.proofs.statement.NamedFieldsStatementAnswers.verify.Goals as goal

pub returns-in-Ok-clause-verdict : goal.returns-in-Ok-clause-verdict
returns-in-Ok-clause-verdict c = said_of_configured (λ v. v) _ _ _ _ _ c.in-Ok.ensures.0 c.in-Ok.ensures.1 c.verify_value.ensures.verdict

pub returns-in-Ok-clause-sound : goal.returns-in-Ok-clause-sound
returns-in-Ok-clause-sound c = λ accepted. holds_of_bytes _ _ _ _ c.in-Ok.ensures.0 c.in-Ok.ensures.1 (c.verify_value.ensures.sound accepted)

pub returns-in-Err-clause-verdict : goal.returns-in-Err-clause-verdict
returns-in-Err-clause-verdict c = said_unconfigured (λ v. v) _ _ _ _ refl c.in-Err.ensures

pub returns-in-Err-clause-sound : goal.returns-in-Err-clause-sound
returns-in-Err-clause-sound c = λ accepted. absurd (unconfigured_accepts_none _ _ c.in-Err.ensures accepted)

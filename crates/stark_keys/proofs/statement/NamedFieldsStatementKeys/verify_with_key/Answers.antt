use Rattle.std.proofs.Common.{refl}
use Rattle.stark_service.proofs.ReadSteps.{holds_of_bytes, said_of_configured, said_unconfigured, unconfigured_accepts_none}
use Rattle.stark_keys.proofs.ReadSteps.{made_of_bytes}
use Rattle.stark_keys.proofs.statement.NamedFieldsStatementKeys.verify_with_key.Goals as goal

pub returns-in-Ok-clause-verdict : goal.returns-in-Ok-clause-verdict
returns-in-Ok-clause-verdict c = said_of_configured (λ v. v) _ _ _ _ _ c.in-Ok.ensures.0 c.in-Ok.ensures.1 c.verify_value.ensures.verdict

pub returns-in-Ok-clause-owned : goal.returns-in-Ok-clause-owned
returns-in-Ok-clause-owned c = λ of_key.
    said_of_configured (λ v. v) _ _ _ _ _ c.in-Ok.ensures.0 c.in-Ok.ensures.1 (c.verify_value.ensures.owned (made_of_bytes _ _ _ _ _ c.in-Ok.ensures.0 c.in-Ok.ensures.1 of_key))

pub returns-in-Ok-clause-sound : goal.returns-in-Ok-clause-sound
returns-in-Ok-clause-sound c = λ accepted of_key.
    holds_of_bytes _ _ _ _ c.in-Ok.ensures.0 c.in-Ok.ensures.1 (c.verify_value.ensures.sound accepted (made_of_bytes _ _ _ _ _ c.in-Ok.ensures.0 c.in-Ok.ensures.1 of_key))

pub returns-in-Err-clause-verdict : goal.returns-in-Err-clause-verdict
returns-in-Err-clause-verdict c = said_unconfigured (λ v. v) _ _ _ _ refl c.in-Err.ensures

pub returns-in-Err-clause-owned : goal.returns-in-Err-clause-owned
returns-in-Err-clause-owned c = λ of_key. said_unconfigured (λ v. v) _ _ _ _ refl c.in-Err.ensures

pub returns-in-Err-clause-sound : goal.returns-in-Err-clause-sound
returns-in-Err-clause-sound c = λ accepted of_key. absurd (unconfigured_accepts_none _ _ c.in-Err.ensures accepted)

use Rattle.std.proofs.Common.{Err, refl}
use Rattle.stark_service.specs.Schemes.{IsSaidOfBytes}
use Rattle.stark_service.proofs.ReadSteps.{said_of_configured, said_unconfigured, unconfigured_accepts_none}
use Rattle.stark_keys.specs.contracts.statement.NamedFieldsConfiguredKeys.TheImpl as configured
use Rattle.stark_keys.proofs.MakingSteps.{file_of_made}
use Rattle.stark_keys.proofs.statement.NamedFieldsStatementKeys.key.Goals as goal

pub returns-in-Ok-clause-made : goal.returns-in-Ok-clause-made
returns-in-Ok-clause-made c = said_of_configured (λ v. Err v) _ _ _ _ _ c.in-Ok.ensures.0 c.in-Ok.ensures.1 c.key_of_value.ensures.made

pub returns-in-Ok-clause-key_file : goal.returns-in-Ok-clause-key_file
returns-in-Ok-clause-key_file c = file_of_made (λ m. IsSaidOfBytes (λ v. Err v) configured.ghosts.makes c.args.statement.items m) _ (said_of_configured (λ v. Err v) _ _ _ _ _ c.in-Ok.ensures.0 c.in-Ok.ensures.1 c.key_of_value.ensures.made)

pub returns-in-Err-clause-made : goal.returns-in-Err-clause-made
returns-in-Err-clause-made c = said_unconfigured (λ v. Err v) _ _ _ _ refl c.in-Err.ensures

pub returns-in-Err-clause-refused : goal.returns-in-Err-clause-refused
returns-in-Err-clause-refused c = λ accepted. unconfigured_accepts_none _ _ c.in-Err.ensures accepted

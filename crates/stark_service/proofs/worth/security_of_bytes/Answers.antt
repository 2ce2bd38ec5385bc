use Rattle.std.proofs.Common.{refl}
use Rattle.stark_service.specs.Worth.{unsaid}
use Rattle.stark_service.proofs.ReadSteps.{said_of_configured, said_unconfigured}
use Rattle.stark_service.proofs.worth.security_of_bytes.Goals as goal

pub returns-in-Ok : goal.returns-in-Ok
returns-in-Ok c = said_of_configured unsaid _ _ _ _ _ c.in-Ok.ensures.0 c.in-Ok.ensures.1 c.security_of_value.ensures

pub returns-in-Err : goal.returns-in-Err
returns-in-Err c = said_unconfigured unsaid _ _ _ _ refl c.in-Err.ensures

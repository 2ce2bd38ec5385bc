use Rattle.stark_service.specs.contracts.proof_heights.NamedFieldsConfiguredHeights.TheImpl as heights
use Rattle.stark_service.proofs.FloorSteps.{height_is_none, height_is_one, height_is_so, no_height_some, one_over_field}
use Rattle.stark_service.proofs.proof_heights.log_height_of.Goals as goal

pub returns-in-Ok-clause-is : goal.returns-in-Ok-clause-is
returns-in-Ok-clause-is c = height_is_so heights.height_is-value.it c.args.proof.now _ _ _ c.in-Ok.ensures.0 c.in-Ok.ensures.1 c.log_height_by.result c.log_height_by.ensures

pub returns-in-Ok-clause-only : goal.returns-in-Ok-clause-only
returns-in-Ok-clause-only c =
    height_is_one heights.height_is-value.it c.args.proof.now _ _ _ c.in-Ok.ensures.0 c.in-Ok.ensures.1 (λ h g first second. one_over_field c.in-Ok.configuration.field _ _ _ h g first second) c.log_height_by.result c.log_height_by.ensures

pub returns-in-Err-clause-is : goal.returns-in-Err-clause-is
returns-in-Err-clause-is c = no_height_some _ c.in-Err.report.answer c.no_height.result c.no_height.ensures

pub returns-in-Err-clause-only : goal.returns-in-Err-clause-only
returns-in-Err-clause-only c = height_is_none heights.height_is-value.it c.args.proof.now _ c.in-Err.report.answer c.in-Err.ensures c.no_height.result c.no_height.ensures

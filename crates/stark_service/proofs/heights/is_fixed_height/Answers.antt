use Rattle.std.proofs.Common.{◌∙◌, ap, arith, sym}
use Rattle.stark_service.specs.Heights.{is_fixed_height}
use Rattle.stark_service.proofs.HeightSteps.{too_high}
use Rattle.stark_service.proofs.heights.is_fixed_height.Goals as goal

pub returns-in-Some-2 : goal.returns-in-Some-2
returns-in-Some-2 c =
    too_high c.args.rows c.in-Some.log_height (omega arith) (λ low. omega (arith, low, c.if-log_height-lt64.false)) ∙ ap (λ fixed. is_fixed_height fixed c.args.rows) (sym c.in-Some.is)

use Rattle.std.proofs.Common.{◌∙◌, sym, ◌^◌, ◌-◌}
use Rattle.stark_security.proofs.BoundSteps.{too_many}
use Rattle.stark_security.proofs.Fitting.{large_sum}
use Rattle.stark_security.proofs.bounds.recomposed_bound.Goals as goal

pub returns-in_err-quotient_size : goal.returns-in_err-quotient_size
returns-in_err-quotient_size c =
    c.from_residual.ensures ∙ sym (too_many c.args.log_parts c.args.degree_bits (2 ^ c.args.degree_bits - 1) (large_sum _ _ (c.in_err-quotient_size.ensures.fits)))

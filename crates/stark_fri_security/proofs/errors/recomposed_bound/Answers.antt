use Rattle.std.proofs.Common.{◌∙◌, sym, ◌^◌}
use Rattle.stark_security.proofs.BoundSteps.{too_many}
use Rattle.stark_security.proofs.Fitting.{large_sum}
use Rattle.stark_fri_security.proofs.errors.recomposed_bound.Goals as goal

pub returns-in_err-quotient_size : goal.returns-in_err-quotient_size
returns-in_err-quotient_size c =
    c.from_residual.ensures ∙ sym (too_many c.args.log_chunks c.args.log_height (2 ^ c.args.log_height) (large_sum _ _ (c.in_err-quotient_size.ensures.fits)))

use Rattle.std.proofs.Common.{◌∙◌, refl, sym, append-nil}
use Rattle.stark_symbolic.proofs.Refusals.{on_err}
use Rattle.stark_symbolic.proofs.degree_builder.DegreeBuilderBaseAirBuilder.assert_zero.Goals as goal

pub returns-in_err-push-clause-refused : goal.returns-in_err-push-clause-refused
returns-in_err-push-clause-refused g c = on_err c.from_residual.result (record { same_environment = refl; same_layout = refl; appended = c.in_err-push.ensures.items ∙ sym (append-nil _) })

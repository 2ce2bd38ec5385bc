use Rattle.stark_verifier.specs.Constraints.{given_rows}
use Rattle.stark_commands.proofs.point.check_equation.Given as goal

abbrev pub ghost-verify_constraints : goal.ghost-verify_constraints
ghost-verify_constraints g a = given_rows a.trace_local.now a.trace_next.now a.preprocessed_local a.preprocessed_next a.periodic_values.now a.public_values.now

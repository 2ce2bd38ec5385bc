use Rattle.std.proofs.Common.{rules}
use Rattle.stark_symbolic.proofs.builder.SymbolicAirBuilderBaseAirBuilder.assert_zero.Goals as goal

pub returns : goal.returns
returns g c = search rules

pub returns-in_err-x : goal.returns-in_err-x
returns-in_err-x g c = search rules

pub returns-in_err-push : goal.returns-in_err-push
returns-in_err-push g c = search rules

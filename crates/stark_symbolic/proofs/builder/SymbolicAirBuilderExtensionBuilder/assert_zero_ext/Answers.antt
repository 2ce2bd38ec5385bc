use Rattle.std.proofs.Common.{rules}
use Rattle.stark_symbolic.proofs.builder.SymbolicAirBuilderExtensionBuilder.assert_zero_ext.Goals as goal

pub returns : goal.returns
returns g c = search rules

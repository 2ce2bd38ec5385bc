use Rattle.std.proofs.Common.{refl}
use Rattle.dft_tests.proofs.calls.columns_of_values.Goals as goal

pub interpolate_columns-requires-clause-within : goal.interpolate_columns-requires-clause-within
interpolate_columns-requires-clause-within g c = c.if-not-lie_within.ensures.inside refl

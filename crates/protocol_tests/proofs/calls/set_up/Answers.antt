use Rattle.std.proofs.Common.{arith}
use Rattle.protocol_tests.proofs.calls.set_up.Goals as goal

pub setup_preprocessed-requires-clause-within : goal.setup_preprocessed-requires-clause-within
setup_preprocessed-requires-clause-within g c = λ trace declared some. let within = c.requires.within trace declared some in omega (arith, within)

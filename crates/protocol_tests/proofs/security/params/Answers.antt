use Rattle.std.proofs.Common.{arith, false}
use Rattle.stark_transcript.specs.Shape.{opens_next_row}
use Rattle.protocol_tests.specs.SizedAirs.{next_columns_if}
use Rattle.protocol_tests.proofs.SmallParams.{batched_fit}
use Rattle.protocol_tests.proofs.security.params.Goals as goal

pub from_air-requires-2-clause-batched : goal.from_air-requires-2-clause-batched
from_air-requires-2-clause-batched g c = λ chunks count.
    batched_fit c.args.openings count (opens_next_row (next_columns_if c.args.reads_next)) false c.from_air.result.main_width c.from_air.result.preprocessed_width (omega arith) c.requires.hint
    c.from_air.ensures.main_width c.from_air.ensures.preprocessed_width c.requires.random

use Rattle.std.proofs.Common.{refl}
use Rattle.parts_tests.proofs.numbers.logarithms.Goals as goal

pub log2_strict_usize-requires-2 : goal.log2_strict_usize-requires-2
log2_strict_usize-requires-2 g c = (12, refl)

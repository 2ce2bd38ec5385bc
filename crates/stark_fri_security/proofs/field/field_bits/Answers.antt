use Rattle.std.proofs.Common.{arith}
use Rattle.stark_fri_security.proofs.Powers.{capped_positive}
use Rattle.stark_fri_security.proofs.field.field_bits.Goals as goal

pub ilog2-requires : goal.ilog2-requires
ilog2-requires c = omega (arith, capped_positive c.args.order c.loop-factor._factor c.requires)

use Rattle.std.proofs.Common.{◌^◌, ◌≤◌, arith}
use Rattle.stark_fri_security.proofs.CountSteps.{small_power}
use Rattle.stark_fri_security.proofs.proved.bits_within.Goals as goal

pub passing_parts-lists-requires-clause-whole : goal.passing_parts-lists-requires-clause-whole
passing_parts-lists-requires-clause-whole c = small_power c.min-whole_bits.result c.two_power-3.result (omega arith) c.two_power-3.ensures.power

pub overflow_add-draws : goal.overflow_add-draws
overflow_add-draws c =
    let whole : c.two_power-3.result ≤ 2 ^ 110 = small_power c.min-whole_bits.result c.two_power-3.result (omega arith) c.two_power-3.ensures.power in omega arith

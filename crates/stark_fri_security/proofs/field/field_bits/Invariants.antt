use Rattle.std.proofs.Common.{◌≡◌, ◌-◌, ◌^◌}
use Rattle.std.specs.Prelude.{min}
use Rattle.stark_fri_security.proofs.field.field_bits.Given as goal

abbrev pub invariant-loop-factor : goal.invariant-loop-factor
invariant-loop-factor l = l.elements ≡ min (l.order ^ l._factor) (2 ^ 128 - 1)

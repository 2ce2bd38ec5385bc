use Rattle.std.proofs.Common.{◌≡◌, length}
use Rattle.stark_clear.proofs.MaskedColumns.{less_from}
use Rattle.stark_clear.proofs.masked.columns.take_off.Given as goal

abbrev pub invariant-loop-place : goal.invariant-loop-place
invariant-loop-place g l =
    (length l.from.items ≡ length l.initial.from.items) × (less_from g.F.Field.ring l.place l.from.items l.p ≡ less_from g.F.Field.ring 0 l.initial.from.items l.p)

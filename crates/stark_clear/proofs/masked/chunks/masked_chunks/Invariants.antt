use Rattle.std.proofs.Common.{◌≡◌, ◌++◌, map}
use Rattle.stark_columns.specs.Columns.{columns_list}
use Rattle.stark_clear.proofs.MaskedChunkSteps.{left_to_mask}
use Rattle.stark_clear.proofs.masked.chunks.masked_chunks.Given as goal

abbrev pub invariant-loop-i : goal.invariant-loop-i
invariant-loop-i g l =
    map columns_list l.chunks.items ++ left_to_mask g.F.Field.ring g.F.Field.inverse_of (λ d. record { shift = d.shift; log_size = d.log_size }) columns_list l.parts l.plain l.masks l.i l.i
    ≡ left_to_mask g.F.Field.ring g.F.Field.inverse_of (λ d. record { shift = d.shift; log_size = d.log_size }) columns_list l.parts l.plain l.masks l.i 0

use Rattle.std.proofs.Common.{◌≡◌, ◌+◌, ◌*◌, ◌%◌, length, map}
use Rattle.stark_columns.specs.Columns.{columns_list}
use Rattle.stark_clear.specs.Masks.{chunk_masks}
use Rattle.stark_clear.proofs.masked.chunks.quotient_masks.Given as goal

abbrev pub invariant-loop-chunk : goal.invariant-loop-chunk
invariant-loop-chunk g l =
    (map columns_list l.chunks.items ≡ chunk_masks g.F.Field.ring l.masks 0 l._chunk l.width l.size) × (l.place ≡ (0 + l._chunk * (l.width * l.size)) % length l.masks)

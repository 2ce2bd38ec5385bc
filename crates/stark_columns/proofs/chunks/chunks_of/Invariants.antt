use Rattle.std.proofs.Common.{◌≡◌, ◌^◌, ℕ, map}
use Rattle.stark_support.specs.Scheme.{matrix_row}
use Rattle.stark_columns.specs.Columns.{columns_list}
use Rattle.stark_columns.specs.PlainChunks.{ArePlainChunks}
use Rattle.stark_columns.proofs.chunks.chunks_of.Given as goal

abbrev pub invariant-loop-i : goal.invariant-loop-i
invariant-loop-i g l = (log_parts : ℕ) → 2 ^ log_parts ≡ l.num_chunks
    → ArePlainChunks g.F.Field.ring g.F.TwoAdicField.root (record { shift = l.domain.shift; log_size = l.domain.log_size }) log_parts l.flat.width l.i (matrix_row l.flat.values.items l.flat.width) (map columns_list l.chunks.items)

use Rattle.std.proofs.Common.{◌≡◌, ◌++◌, drop, map}
use Rattle.stark_merkle.specs.Tree.{items_of}
use Rattle.stark_merkle.specs.Bytes.{element_bytes, row_bytes_of, rows_bytes}
use Rattle.stark_merkle.proofs.bytes.write_rows.Given as goal

abbrev pub invariant-loop-row : goal.invariant-loop-row
invariant-loop-row g l =
    l.bytes.items ++ rows_bytes (element_bytes g.F.PrimeField64.BYTES g.F.PrimeField64.number_of) (map items_of (drop l.row-index l.rows)) ≡ row_bytes_of (element_bytes g.F.PrimeField64.BYTES g.F.PrimeField64.number_of) (map items_of l.rows)

use Rattle.std.proofs.Common.{◌≡◌, ◌++◌, drop, map}
use Rattle.std.specs.List.{AllByRecursion}
use Rattle.stark_merkle.specs.Bytes.{element_bytes, row_bytes_of, rows_bytes}
use Rattle.stark_fri_prover.specs.Commit.{HasRow, row_of}
use Rattle.stark_fri_prover.proofs.commit.write_rows_at.Given as goal

-- The bytes of the rows that are left go after those that are there, and the matrices that are left have the row.
abbrev pub invariant-loop-matrix : goal.invariant-loop-matrix
invariant-loop-matrix g l =
    AllByRecursion (HasRow l.place) (drop l.matrix-index l.extended)
    × (l.bytes.items ++ rows_bytes (element_bytes g.F.PrimeField64.BYTES g.F.PrimeField64.number_of) (map (row_of l.place) (drop l.matrix-index l.extended)) ≡ row_bytes_of (element_bytes g.F.PrimeField64.BYTES g.F.PrimeField64.number_of) (map (row_of l.place) l.extended))

use Rattle.std.proofs.Common.{◌≡◌, ◌++◌, drop, map}
use Rattle.std.specs.Simd.Lanes.{zip2}
use Rattle.stark_columns.specs.Columns.{column_list, columns_list}
use Rattle.stark_clear.specs.Masks.{masked_polynomial}
use Rattle.stark_clear.proofs.masked.columns.masked_columns.Given as goal

abbrev pub invariant-loop-i : goal.invariant-loop-i
invariant-loop-i g l =
    columns_list l.columns ++ zip2 (masked_polynomial g.F.Field.ring l.scale) (map column_list (drop l.i l.plain)) (map column_list (drop l.i l.masks))
    ≡ zip2 (masked_polynomial g.F.Field.ring l.scale) (map column_list l.plain) (map column_list l.masks)

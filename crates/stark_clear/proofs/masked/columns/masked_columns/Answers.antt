use Rattle.std.proofs.Common.{arith}
use Rattle.stark_columns.specs.Columns.{column_list}
use Rattle.stark_clear.specs.Masks.{masked_polynomial}
use Rattle.stark_clear.proofs.MaskedColumns.{all_joined}
use Rattle.stark_clear.proofs.masked.columns.masked_columns.Goals as goal

pub returns : goal.returns
returns g c =
    all_joined column_list column_list (masked_polynomial g.F.Field.ring c.args.scale) c.args.plain.now c.args.masks.now c.loop-i.i _ _ (omega (arith, c.min-i-end.ensures, c.loop-i-test.false)) c.loop-i.invariant

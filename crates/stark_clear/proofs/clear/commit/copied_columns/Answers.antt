use Rattle.stark_support.proofs.Places.{all_mapped_front}
use Rattle.stark_columns.specs.Columns.{column_list, columns_list}
use Rattle.stark_clear.proofs.clear.commit.copied_columns.Goals as goal

pub returns : goal.returns
returns g c = all_mapped_front (columns_list c.loop-column.copy) column_list c.args.columns.now c.loop-column.column-index c.loop-column-test.false c.loop-column.invariant

use Rattle.std.proofs.Common.{rules, ◌≡◌, length}
use Rattle.stark_columns.specs.Columns.{column_list}
use Rattle.stark_support.proofs.Loops.{shown, refuted, left_step, left_stop, left_end}
use Rattle.stark_clear.proofs.clear.check.columns_have_size.Goals as goal

pub returns-then-len-size : goal.returns-then-len-size
returns-then-len-size g c =
    let no : length c.column-item.result.items ≡ c.args.size → ⊥ = search rules in
    refuted (left_stop column_list (λ column. length column ≡ c.args.size) c.args.columns.now c.loop-column.column-index c.column-item.result c.loop-column-test.true c.column-item.is no c.loop-column.invariant)

pub loop-column-preserved : goal.loop-column-preserved
loop-column-preserved g c =
    let yes : length c.column-item.result.items ≡ c.args.size = search rules in
    left_step column_list (λ column. length column ≡ c.args.size) c.args.columns.now c.loop-column.column-index c.column-item.result c.loop-column-test.true c.column-item.is yes c.loop-column.invariant

pub returns : goal.returns
returns g c = shown (left_end column_list (λ column. length column ≡ c.args.size) c.args.columns.now c.loop-column.column-index c.loop-column-test.false c.loop-column.invariant)

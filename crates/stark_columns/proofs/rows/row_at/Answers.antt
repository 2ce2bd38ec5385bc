use Rattle.std.proofs.lemmas.Grind.{common_steps}
use Rattle.std.proofs.Common.{◌∙◌, sym, arith}
use Rattle.std.proofs.lemmas.Simd.{map-map}
use Rattle.stark_support.specs.Polynomial.{value_over}
use Rattle.stark_support.proofs.Places.{all_mapped_front}
use Rattle.stark_columns.specs.Columns.{column_list}
use Rattle.stark_columns.proofs.rows.row_at.Goals as goal

pub returns : goal.returns
returns g c = all_mapped_front c.loop-column.row.items (λ column. value_over g.EF.Field.ring g.EF.ExtensionField.embed column.items c.args.point) c.args.columns.now c.loop-column.column-index c.loop-column-test.false c.loop-column.invariant ∙ sym (map-map (λ p. value_over g.EF.Field.ring g.EF.ExtensionField.embed p c.args.point) column_list c.args.columns.now)

pub loop-column-preserved : goal.loop-column-preserved
loop-column-preserved g c = grind (arith, common_steps)

use Rattle.std.proofs.lemmas.Grind.{common_steps}
use Rattle.std.proofs.Common.{map, arith}
use Rattle.stark_support.proofs.Places.{all_mapped_front}
use Rattle.stark_columns.specs.Columns.{columns_list}
use Rattle.stark_clear.proofs.clear.commit.copied.Goals as goal

pub returns : goal.returns
returns g c = all_mapped_front (map columns_list c.loop-columns.copy.items) columns_list c.args.matrices.now c.loop-columns.columns-index c.loop-columns-test.false c.loop-columns.invariant

pub loop-columns-preserved : goal.loop-columns-preserved
loop-columns-preserved g c = grind (arith, common_steps)

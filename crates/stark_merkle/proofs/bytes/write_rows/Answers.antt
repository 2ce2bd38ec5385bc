use Rattle.stark_merkle.specs.Tree.{items_of}
use Rattle.stark_merkle.specs.Bytes.{element_bytes}
use Rattle.stark_merkle.proofs.ByteSteps.{all_rows, one_more_row}
use Rattle.stark_merkle.proofs.bytes.write_rows.Goals as goal

pub loop-row-preserved : goal.loop-row-preserved
loop-row-preserved g c =
    one_more_row (element_bytes g.F.PrimeField64.BYTES g.F.PrimeField64.number_of) items_of c.args.rows.now c.loop-row.row-index c.row-item.result c.deref.result.now c.loop-row.bytes.items _ _
    c.loop-row-test.true c.row-item.is c.deref.ensures.value c.in_ok-push_row.ensures c.loop-row.invariant

pub returns : goal.returns
returns g c = all_rows (element_bytes g.F.PrimeField64.BYTES g.F.PrimeField64.number_of) items_of c.args.rows.now c.loop-row.row-index c.loop-row.bytes.items _ c.loop-row-test.false c.loop-row.invariant

use Rattle.std.proofs.Common.{refl}
use Rattle.stark_merkle.specs.Bytes.{element_bytes}
use Rattle.stark_merkle.proofs.ByteSteps.{all_elements, one_more_element}
use Rattle.stark_merkle.proofs.bytes.push_elements.Goals as goal

pub loop-x-preserved : goal.loop-x-preserved
loop-x-preserved g c =
    one_more_element (element_bytes g.F.PrimeField64.BYTES g.F.PrimeField64.number_of) c.args.xs.now c.loop-x.x-index c.x-item.result c.loop-x.bytes.items _ _ _ c.loop-x-test.true c.x-item.is
    refl c.in_ok-push_element.ensures c.loop-x.invariant

pub returns : goal.returns
returns g c = all_elements (element_bytes g.F.PrimeField64.BYTES g.F.PrimeField64.number_of) c.args.xs.now c.loop-x.x-index c.loop-x.bytes.items _ c.loop-x-test.false c.loop-x.invariant

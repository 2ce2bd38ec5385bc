use Rattle.std.proofs.Common.{arith, refl, sym}
use Rattle.std.proofs.lemmas.Option.{get_or_from_slice_get, slice_get_within}
use Rattle.stark_merkle.specs.Bytes.{element_bytes}
use Rattle.stark_merkle.proofs.ByteSteps.{all_elements, one_more_element}
use Rattle.stark_merkle.proofs.bytes.push_coordinates.Goals as goal

pub loop-index-preserved : goal.loop-index-preserved
loop-index-preserved g c =
    let xs = g.EF.ExtensionField.coordinates c.args.x in
    let i = c.loop-index.index in
    let x = c.coordinate.result in
    one_more_element (element_bytes g.F.PrimeField64.BYTES g.F.PrimeField64.number_of) xs i x c.loop-index.bytes.items _ _ _ (slice_get_within xs i x c.coordinate.ensures) (sym (get_or_from_slice_get xs i x x c.coordinate.ensures))
    refl c.in_ok-push_element.ensures c.loop-index.invariant

pub returns : goal.returns
returns g c =
    let count = g.met.EF.ExtensionField.is_basis.count c.args.x in
    let end = c.DIMENSION-index-end.ensures in
    let ended = c.loop-index-test.false in
    all_elements (element_bytes g.F.PrimeField64.BYTES g.F.PrimeField64.number_of) (g.EF.ExtensionField.coordinates c.args.x) c.loop-index.index c.loop-index.bytes.items _ (omega (arith, count, end, ended)) c.loop-index.invariant

use Rattle.std.proofs.Common.{◌∙◌, ap}
use Rattle.std.specs.Int.{bytes_high_first}
use Rattle.stark_merkle.specs.Bytes.{element_bytes}
use Rattle.stark_merkle.proofs.ByteSteps.{pushed_last}
use Rattle.stark_merkle.proofs.bytes.push_element.Goals as goal

pub returns : goal.returns
unfolding element_bytes
returns g c =
    pushed_last c.extend_from_slice.result 8 c.BYTES.result g.F.PrimeField64.BYTES (g.F.PrimeField64.number_of c.args.x.now) c.args.bytes.now.items c.extend_from_slice.new.self.items c.to_be_bytes.result
    g.met.F.PrimeField64.few_bytes c.BYTES.ensures (c.to_be_bytes.ensures ∙ ap (bytes_high_first 8) c.as_canonical_u64.ensures) c.extend_from_slice.ensures.items

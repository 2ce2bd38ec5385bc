use Rattle.stark_proof_bytes.specs.Roots.{root_read}
use Rattle.stark_proof_bytes.proofs.roots.RootBytesCodec.read_from.Goals as goal

pub returns : goal.returns
returns c = root_read c.args.reader.now c.in_ok-next_bytes.field-0 c.next_bytes.new.self c.new.result c.in_ok-next_bytes.ensures c.new.ensures

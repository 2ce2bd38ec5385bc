use Rattle.stark_key_bytes.proofs.KeyLaws.{read_is_written}
use Rattle.stark_key_bytes.proofs.file.key_from_bytes.Goals as goal

pub returns-clause-canonical : goal.returns-clause-canonical
returns-clause-canonical g c = read_is_written g.Com.BytesCodec.bytes g.met.Com.BytesCodec.bytes_laws c.args.bytes.now c.in_ok-key.key c.known_bytes.ensures c.in_ok-key.ensures

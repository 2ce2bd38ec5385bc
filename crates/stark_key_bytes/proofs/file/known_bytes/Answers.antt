use Rattle.std.proofs.Common.{arith}
use Rattle.stark_key_bytes.proofs.file.known_bytes.Goals as goal

pub returns : goal.returns
returns c = λ place. omega (arith, c.type_inv.bytes place)

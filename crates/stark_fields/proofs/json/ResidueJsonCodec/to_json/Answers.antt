use Rattle.std.proofs.Common.{rules}
use Rattle.stark_fields.proofs.json.ResidueJsonCodec.to_json.Goals as goal

pub returns : goal.returns
returns c = search rules

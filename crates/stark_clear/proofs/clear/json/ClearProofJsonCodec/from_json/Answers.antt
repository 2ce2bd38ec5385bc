use Rattle.std.proofs.Common.{rules}
use Rattle.stark_clear.proofs.clear.json.ClearProofJsonCodec.from_json.Goals as goal

pub returns-then-is_null : goal.returns-then-is_null
returns-then-is_null c = search rules

pub returns-else-is_null : goal.returns-else-is_null
returns-else-is_null c = search rules

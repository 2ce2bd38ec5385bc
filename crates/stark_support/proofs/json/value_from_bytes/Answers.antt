use Rattle.std.proofs.Common.{◌≡◌, true}
use Rattle.stark_support.proofs.Readings.{json_of-some, json_of-none}
use Rattle.stark_support.proofs.json.value_from_bytes.Goals as goal

pub returns-in-Ok : goal.returns-in-Ok
returns-in-Ok c = json_of-some _ _ c.in-Ok.ensures.ok.0 c.in-Ok.ensures.ok.1

pub returns-else-is_memory : goal.returns-else-is_memory
returns-else-is_memory c =
    json_of-none _ (c.in-Err.ensures.err (λ m. let t : c.is_memory.result ≡ true = c.is_memory.ensures.1 m in cc (t, c.if-is_memory.false)))

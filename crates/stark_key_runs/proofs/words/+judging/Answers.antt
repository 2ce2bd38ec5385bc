use Rattle.std.proofs.Common.{◌∙◌, string_bytes, sym}
use Rattle.stark_key_runs.proofs.KeyOptions.{begins_inputs}
use Rattle.stark_key_runs.proofs.words.+judging.Goals as goal

pub returns-in_default : goal.returns-in_default
returns-in_default t c =
    c.inputs_if.ensures
    ∙ sym (begins_inputs string_bytes _ c.args.words.now c.word-item.result c.as_str.result.now c.in-len1-up.len_at_least c.word-item.is c.as_str.ensures.value c.in_default.not-text
    c.in_default.not-text-2 c.in_default.not-text-3)

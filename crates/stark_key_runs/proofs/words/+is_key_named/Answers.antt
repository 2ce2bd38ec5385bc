use Rattle.std.proofs.Common.{◌∙◌, string_bytes, sym}
use Rattle.stark_key_runs.proofs.KeyOptions.{passes_word}
use Rattle.stark_key_runs.proofs.words.+is_key_named.Goals as goal

pub returns-in_default : goal.returns-in_default
returns-in_default t c =
    c.is_key_named.ensures ∙ sym (passes_word string_bytes c.args.words.now c.word-item.result c.as_str.result.now c.in-len1-up.len_at_least c.word-item.is c.as_str.ensures.value c.in_default.not-text)

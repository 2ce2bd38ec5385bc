use Rattle.std.proofs.Common.{◌∙◌, ap, is_some, map, string_bytes, sym}
use Rattle.stark_cli.proofs.MisuseSteps.{first_word, said_of_verb}
use Rattle.stark_cli.proofs.misuse.misuse_of.Goals as goal

pub returns-in-None : goal.returns-in-None
returns-in-None c =
    let first = first_word string_bytes c.args.words.now c.verb-item.result c.as_str-name.result.now c.in-len1-up.len_at_least c.verb-item.is c.as_str-name.ensures.value in
    (first.0, first.1, sym c.verb_of.ensures ∙ c.in-None.is)

pub returns-in-Some : goal.returns-in-Some
returns-in-Some c =
    let first = first_word string_bytes c.args.words.now c.verb-item.result c.as_str-name.result.now c.in-len1-up.len_at_least c.verb-item.is c.as_str-name.ensures.value in
    said_of_verb (map string_bytes c.args.words.now) (c.as_str-name.result.now, first.0, first.1, ap is_some (sym c.verb_of.ensures ∙ c.in-Some.is)) c.misuse_of_verb.result c.misuse_of_verb.ensures

use Rattle.std.proofs.Common.{◌∙◌, Ok, ap, option_map, sym}
use Rattle.serde_json.specs.View.{view}
use Rattle.stark_merkle.specs.RootJson.{value_is_root}
use Rattle.stark_merkle.proofs.root_json.RootJsonCodec.from_json.Goals as goal

pub returns-in-Ok-clause-read : goal.returns-in-Ok-clause-read
returns-in-Ok-clause-read c =
    value_is_root (view c.args.value.now) c.in-Some.text.now c.new.result (sym c.as_str.ensures ∙ ap (option_map (λ s. s.now)) c.in-Some.is)
    (sym c.from_hex.ensures ∙ c.in-Ok.is ∙ ap Ok (sym c.new.ensures))

use Rattle.std.proofs.Common.{◌∙◌, ap, sym}
use Rattle.json.specs.Lex.{after_comma, after_value, between, lex, punctuate}
use Rattle.stark_trace_json.proofs.Lexed.{comma_passed}
use Rattle.stark_trace_json.proofs.scanner.after_item.Goals as goal

pub returns-in-Some : goal.returns-in-Some
returns-in-Some c =
    ap (punctuate after_comma) c.skip_spaces.ensures ∙ sym (comma_passed c.in-Some.rest.now) ∙ ap (λ t. punctuate after_value (lex between t)) (sym c.in-Some.ensures) ∙ ap (punctuate after_value) c.skip_spaces-text.ensures

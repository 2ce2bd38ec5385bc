use Rattle.std.proofs.Common.{◌∷◌, ◌∙◌, ap, sym}
use Rattle.json.specs.Token.{begin_array}
use Rattle.json.specs.Lex.{between, fresh, lex, punctuate}
use Rattle.stark_trace_json.specs.Scanned.{place_of}
use Rattle.stark_trace_json.proofs.Lexed.{opened}
use Rattle.stark_trace_json.proofs.scanner.Scanner.open.Goals as goal

pub returns : goal.returns
returns c =
    let p = place_of c.args.self.place in
    ap (λ t. punctuate p (lex between t)) c.in-Some.ensures ∙ opened p c.in-Some.rest.now (sym c.may_begin.ensures ∙ c.if-not-may_begin.false) ∙ ap (λ ls. begin_array ∷ punctuate fresh ls) (sym c.skip_spaces.ensures)

use Rattle.std.proofs.Common.{◌∷◌, ◌∙◌, ap, sym}
use Rattle.json.specs.Token.{end_array}
use Rattle.json.specs.Lex.{between, lex, punctuate}
use Rattle.stark_trace_json.specs.Scanned.{place_of}
use Rattle.stark_trace_json.proofs.Lexed.{closed}
use Rattle.stark_trace_json.proofs.scanner.Scanner.close.Goals as goal

pub returns : goal.returns
returns c =
    let p = place_of c.args.self.place in
    ap (λ t. punctuate p (lex between t)) c.in-Some.ensures ∙ closed p c.in-Some.rest.now (sym c.may_close.ensures ∙ c.if-not-may_close.false) ∙ ap (λ ts. end_array ∷ ts) (sym c.after_item.ensures)

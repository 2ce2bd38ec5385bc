use Rattle.std.proofs.Common.{◌∷◌, ◌∙◌, ap, decimal, sym}
use Rattle.json.specs.Token.{number}
use Rattle.stark_trace_json.specs.Scanned.{place_of}
use Rattle.stark_trace_json.proofs.Lexed.{number_passed}
use Rattle.stark_trace_json.proofs.scanner.Scanner.number.Goals as goal

pub returns-clause-passed : goal.returns-clause-passed
returns-clause-passed c =
    let p = place_of c.args.self.place in
    let s = decimal c.in-Some.value in
    number_passed p s c.args.self.text.now c.in-Some.rest.now (sym c.may_begin.ensures ∙ c.if-not-may_begin.false) c.in-Some.ensures.passed ∙ ap (λ ts. number s ∷ ts) (sym c.after_item.ensures)

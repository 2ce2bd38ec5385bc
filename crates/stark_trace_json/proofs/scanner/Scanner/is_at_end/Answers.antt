use Rattle.std.proofs.Common.{◌≡◌, ◌∙◌, length, sym, arith}
use Rattle.std.proofs.lemmas.Bool.Decides.{nat_tests}
use Rattle.stark_trace_json.specs.Scanned.{place_of}
use Rattle.stark_trace_json.proofs.Lexed.{at_end}
use Rattle.stark_trace_json.proofs.scanner.Scanner.is_at_end.Goals as goal

pub returns-then-may_close : goal.returns-then-may_close
returns-then-may_close c = λ empty.
    let none : length c.args.self.text.now ≡ 0 = grind (arith, nat_tests) in
    at_end (place_of c.args.self.place) c.args.self.text.now (sym c.may_close.ensures ∙ c.if-may_close.true) none

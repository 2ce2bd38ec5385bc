use Rattle.std.proofs.Common.{◌∙◌, length, sym, arith}
use Rattle.std.proofs.lemmas.List.Sums.{prefix_len_is}
use Rattle.stark_language.specs.Tokens.{belongs}
use Rattle.stark_language.proofs.lexer.Class.run_length.Goals as goal

pub returns-then-not-contains-clause-exact : goal.returns-then-not-contains-clause-exact
returns-then-not-contains-clause-exact c =
    sym (prefix_len_is (belongs c.args.self) c.args.text.now c.loop-at.at 0 (omega arith) c.loop-at.invariant (λ _. sym c.contains.ensures ∙ c.if-not-contains.true))

pub returns-clause-exact : goal.returns-clause-exact
returns-clause-exact c =
    sym (prefix_len_is (belongs c.args.self) c.args.text.now (length c.args.text.now) 0 (omega arith) (λ k h. c.loop-at.invariant k (omega arith)) (λ h. absurd (omega arith)))

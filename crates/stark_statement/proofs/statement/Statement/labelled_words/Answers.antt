use Rattle.std.proofs.Common.{◌≡◌, ◌∙◌, ap, subst}
use Rattle.stark_statement.specs.StatementBytes.{statement_bytes}
use Rattle.stark_statement.specs.StatementView.{statement_view}
use Rattle.stark_statement.specs.Words.{AreWords, framed, labelled}
use Rattle.stark_statement.proofs.StatementCodes.{no_other_statement}
use Rattle.stark_statement.proofs.statement.Statement.labelled_words.Goals as goal

pub returns-clause-of_this_statement : goal.returns-clause-of_this_statement
returns-clause-of_this_statement g c =
    let field = g.F.PrimeField64 in
    let bounded = subst AreWords (c.deref.ensures.value ∙ c.in_ok-words.ensures) c.known_words.ensures in
    let body = c.in_ok-body.ensures ∙ ap labelled (c.deref-2.ensures.value ∙ c.in_ok-words.ensures) in
    let written : framed c.in_ok-body.body.items ≡ statement_bytes field.number_of (statement_view c.args.self.now) = ap framed body in
    no_other_statement field.number_of field.of_number g.met.F.PrimeField64.same_number (statement_view c.args.self.now) (framed c.in_ok-body.body.items) bounded written

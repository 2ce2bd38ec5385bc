use Rattle.std.proofs.Common.{◌∙◌, ap, subst, sym}
use Rattle.stark_statement.specs.StatementBytes.{TellsStatement}
use Rattle.stark_statement.specs.StatementView.{statement_view}
use Rattle.stark_statement.specs.Words.{framed}
use Rattle.stark_statement.proofs.statement.Statement.canonical_bytes.Goals as goal

pub returns-clause-of_this_statement : goal.returns-clause-of_this_statement
returns-clause-of_this_statement g c = subst (TellsStatement g.F.PrimeField64.number_of (statement_view c.args.self.now)) (sym (c.in_ok-bytes.ensures ∙ ap framed c.deref.ensures.value)) c.in_ok-body.ensures.of_this_statement

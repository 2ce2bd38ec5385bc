use Rattle.std.proofs.Common.{subst}
use Rattle.serde_json.specs.View.{view}
use Rattle.stark_json.specs.Apart.{rows_apart}
use Rattle.stark_statement.specs.StatementJson.{Decodes}
use Rattle.stark_statement.specs.StatementView.{statement_view}
use Rattle.stark_statement.proofs.ApartSteps.{statement_is}
use Rattle.stark_statement.proofs.statement.statement_from_parts.Goals as goal

pub returns-clause-decoded : goal.returns-clause-decoded
returns-clause-decoded g c =
    subst (Decodes statement_view c.statement_of_parts.result) (statement_is g.F.JsonCodec.reading (rows_apart c.args.rows.now) (view c.args.value.now)) c.statement_of_parts.ensures.decoded

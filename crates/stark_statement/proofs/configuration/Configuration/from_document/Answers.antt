use Rattle.std.proofs.Common.{subst}
use Rattle.serde_json.specs.View.{view}
use Rattle.stark_json.specs.Apart.{rows_apart}
use Rattle.stark_statement.specs.Configuration.{configuration_view}
use Rattle.stark_statement.specs.StatementJson.{Decodes}
use Rattle.stark_statement.proofs.ApartSteps.{configuration_is}
use Rattle.stark_statement.proofs.configuration.Configuration.from_document.Goals as goal

pub returns-clause-decoded : goal.returns-clause-decoded
returns-clause-decoded c =
    let document = c.args.document.now in
    subst (Decodes configuration_view c.from_statement.result) (configuration_is (rows_apart document.rows) (view document.value)) c.from_statement.ensures.decoded

use Rattle.stark_statement.specs.StatementView.{statement_view}
use Rattle.stark_service.proofs.StatementSteps.{same_declared, tree_checked}
use Rattle.stark_keys.proofs.MakingSteps.{has_rows}
use Rattle.stark_keys.proofs.making.key_with_rows.Goals as goal

pub returns : goal.returns
returns g c =
    let d = c.args.statement.now.air.declaration in
    let l = c.args.statement.now.air.list in
    record {
      log_rows = c.args.log_rows;
      rows = has_rows _ (tree_checked d l) _ c.args.log_rows (same_declared d l) c.requires.height c.requires.within;
      given = record { digest = c.args.digest; key = c.in_ok-key.key };
      spelled = c.in_ok-bytes.ensures.read_back;
      of_statement = c.requires.digest;
      is_key = c.in_ok-key.ensures;
    }

use Rattle.stark_statement.specs.StatementView.{statement_view}
use Rattle.stark_service.proofs.StatementsSound.{taken_soundly}
use Rattle.stark_keys.proofs.OwnedSteps.{owned_of_file}
use Rattle.stark_keys.proofs.judging.verify_with_key_bytes.Goals as goal

pub returns-clause-owned : goal.returns-clause-owned
returns-clause-owned g c = λ file. owned_of_file _ _ _ (statement_view c.args.statement.now) _ _ _ file c.verify_with_read_key.ensures

pub returns-clause-sound : goal.returns-clause-sound
returns-clause-sound g c = λ accepted file.
    taken_soundly _ g.met.SC.Challenge.Field.field_laws _ _ (statement_view c.args.statement.now) _ _
    (owned_of_file _ _ _ (statement_view c.args.statement.now) _ _ _ file c.verify_with_read_key.ensures) accepted

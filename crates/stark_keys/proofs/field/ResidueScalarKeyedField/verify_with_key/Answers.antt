use Rattle.stark_keys.proofs.field.ResidueScalarKeyedField.verify_with_key.Goals as goal

pub returns-clause-verdict : goal.returns-clause-verdict
returns-clause-verdict g c = rw c.new-challenger.ensures at c.verify_over.ensures.verdict

pub returns-clause-owned : goal.returns-clause-owned
returns-clause-owned g c = rw c.new-challenger.ensures at c.verify_over.ensures.owned

pub returns-clause-sound : goal.returns-clause-sound
returns-clause-sound g c = rw c.new-challenger.ensures at c.verify_over.ensures.sound

use Rattle.stark_service.proofs.field.ResidueScalarServiceField.verify.Goals as goal

pub returns-clause-verdict : goal.returns-clause-verdict
returns-clause-verdict g c = rw c.new-challenger.ensures at c.verify_over.ensures.verdict

pub returns-clause-sound : goal.returns-clause-sound
returns-clause-sound g c = rw c.new-challenger.ensures at c.verify_over.ensures.sound

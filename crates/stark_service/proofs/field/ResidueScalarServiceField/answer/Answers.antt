use Rattle.stark_service.proofs.field.ResidueScalarServiceField.answer.Goals as goal

pub returns-clause-finds : goal.returns-clause-finds
returns-clause-finds g c = rw c.new-challenger.ensures at c.answer_over.ensures.finds

pub returns-clause-proof : goal.returns-clause-proof
returns-clause-proof g c = rw c.new-challenger.ensures at c.answer_over.ensures.proof

pub returns-clause-accepted : goal.returns-clause-accepted
returns-clause-accepted g c = rw c.new-challenger.ensures at c.answer_over.ensures.accepted

use Rattle.stark_service.proofs.statement.answer_value.Goals as goal

pub returns-in-BabyBear-clause-proof : goal.returns-in-BabyBear-clause-proof
returns-in-BabyBear-clause-proof g c = rw c.in-BabyBear.is c.answer.ensures.proof

pub returns-in-KoalaBear-clause-proof : goal.returns-in-KoalaBear-clause-proof
returns-in-KoalaBear-clause-proof g c = rw c.in-KoalaBear.is c.answer-in-KoalaBear.ensures.proof

pub returns-in-BabyBear-clause-accepted : goal.returns-in-BabyBear-clause-accepted
returns-in-BabyBear-clause-accepted g c = rw c.in-BabyBear.is c.answer.ensures.accepted

pub returns-in-KoalaBear-clause-accepted : goal.returns-in-KoalaBear-clause-accepted
returns-in-KoalaBear-clause-accepted g c = rw c.in-KoalaBear.is c.answer-in-KoalaBear.ensures.accepted

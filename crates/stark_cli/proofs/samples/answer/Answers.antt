use Rattle.stark_cli.proofs.SampleMeaning.{check_found, prove_found, verify_found}
use Rattle.stark_cli.proofs.samples.answer.Goals as goal

pub returns-in-Check : goal.returns-in-Check
returns-in-Check c = check_found _ _ _ _ c.in-Check.air _ _ c.in-Check.is c.check_sample.ensures

pub returns-in-Verify : goal.returns-in-Verify
returns-in-Verify c = verify_found _ _ _ _ c.in-Verify.air _ _ c.in-Verify.is c.verify_sample.ensures.verified c.verify_sample.ensures.sound

pub returns-in-Prove : goal.returns-in-Prove
returns-in-Prove c = prove_found _ _ _ _ c.in-Prove.air _ _ c.in-Prove.is c.prove_sample.ensures

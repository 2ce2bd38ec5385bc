use Rattle.fri_tests.proofs.tests.counter_proof.Goals as goal

pub prove-requires-clause-height : goal.prove-requires-clause-height
prove-requires-clause-height c = (2, c.fits.ensures.height c.if-not-fits.false, c.fits.ensures.within c.if-not-fits.false)

use Rattle.stark_prover.proofs.prover.prove.Goals as goal

pub prove_with_preprocessed-requires-clause-height : goal.prove_with_preprocessed-requires-clause-height
prove_with_preprocessed-requires-clause-height g c = let given = c.requires.height in (given.0, given.1, given.2, tt)

pub prove_with_preprocessed-requires-clause-fits : goal.prove_with_preprocessed-requires-clause-fits
prove_with_preprocessed-requires-clause-fits g c = c.requires.fits

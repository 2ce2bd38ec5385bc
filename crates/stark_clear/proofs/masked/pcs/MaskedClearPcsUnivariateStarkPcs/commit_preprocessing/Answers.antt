use Rattle.stark_clear.proofs.masked.pcs.MaskedClearPcsUnivariateStarkPcs.commit_preprocessing.Goals as goal

pub returns-clause-made : goal.returns-clause-made
returns-clause-made g c = c.commit_preprocessing.ensures.made

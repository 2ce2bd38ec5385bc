use Rattle.stark_fri_prover.proofs.pcs.FriPcsUnivariateStarkPcs.verify_with_preprocessing.Goals as goal

pub returns-clause-refused : goal.returns-clause-refused
returns-clause-refused g c = rw c.deref.ensures.value at c.verify_openings.ensures.refused

pub returns-clause-sound : goal.returns-clause-sound
returns-clause-sound g c = rw c.deref.ensures.value at c.verify_openings.ensures.sound

pub returns-clause-few : goal.returns-clause-few
returns-clause-few g c = rw c.deref.ensures.value at c.verify_openings.ensures.few

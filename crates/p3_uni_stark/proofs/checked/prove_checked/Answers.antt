use Rattle.std.proofs.Common.{inl, refl}
use Rattle.stark_prover.proofs.CompletenessSteps.{within_field}
use Rattle.p3_uni_stark.proofs.CheckedSteps.{stated_as}
use Rattle.p3_uni_stark.proofs.SizedDegrees.{sizable_degrees_fit}
use Rattle.p3_uni_stark.proofs.checked.prove_checked.Goals as goal

pub check_declared-requires-clause-columns : goal.check_declared-requires-clause-columns
check_declared-requires-clause-columns g c = c.requires.fits.columns

pub check_declared-requires-clause-width : goal.check_declared-requires-clause-width
check_declared-requires-clause-width g c = c.requires.fits.width

pub check_declared-requires-clause-public_values : goal.check_declared-requires-clause-public_values
check_declared-requires-clause-public_values g c = c.requires.fits.public_values

pub check_declared-requires-clause-height : goal.check_declared-requires-clause-height
check_declared-requires-clause-height g c = let given = c.requires.height in (given.0, given.1, given.4)

pub prove_with_preprocessed-requires-clause-height : goal.prove_with_preprocessed-requires-clause-height
prove_with_preprocessed-requires-clause-height g c = let given = c.requires.height in (given.0, given.1, given.2, given.3)

pub prove_with_preprocessed-requires-clause-fits : goal.prove_with_preprocessed-requires-clause-fits
prove_with_preprocessed-requires-clause-fits g c = c.requires.fits

pub returns-in-Err-clause-fault : goal.returns-in-Err-clause-fault
returns-in-Err-clause-fault g c = stated_as _ _ c.in-Err.error c.from.result c.from.ensures c.in-Err.ensures.broken (λ height rows. inl refl)

pub returns-in-Ok-prove_with_preprocessed-clause-accepted : goal.returns-in-Ok-prove_with_preprocessed-clause-accepted
returns-in-Ok-prove_with_preprocessed-clause-accepted g c = λ height provable sizable key set_up.
    let proved = c.in-Ok-prove_with_preprocessed.ensures in
    let within = within_field _ _ _ _ _ _ _ _ (proved.made height provable.rows c.requires.fits.stands.0 c.requires.fits.stands.1) in
    let constraints = g.A.Air.constraints c.args.air.now in
    let hint = g.A.BaseAir.degree_hint c.args.air.now in
    proved.complete height provable.rows provable.least provable.complete key set_up (c.in-Ok.ensures.satisfied height provable.rows within)
    (sizable_degrees_fit constraints sizable hint g.SC.Pcs.Pcs.ZK height)

pub returns-in-Ok-prove_with_preprocessed-clause-sized : goal.returns-in-Ok-prove_with_preprocessed-clause-sized
returns-in-Ok-prove_with_preprocessed-clause-sized g c = λ height provable sized key set_up.
    let proved = c.in-Ok-prove_with_preprocessed.ensures in
    let within = within_field _ _ _ _ _ _ _ _ (proved.made height provable.rows c.requires.fits.stands.0 c.requires.fits.stands.1) in
    proved.complete height provable.rows provable.least provable.complete key set_up (c.in-Ok.ensures.satisfied height provable.rows within) sized

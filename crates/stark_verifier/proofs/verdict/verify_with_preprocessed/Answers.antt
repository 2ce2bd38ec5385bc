use Rattle.std.proofs.Common.{rules}
use Rattle.stark_protocol.proofs.Carried.{carried}
use Rattle.stark_verifier.proofs.Excluded.{exact}
use Rattle.stark_verifier.proofs.SoundAcceptanceSteps.{sound_of_parts}
use Rattle.stark_verifier.proofs.Verdicts.{equation_refused, run_refused, shape_refused}
use Rattle.stark_verifier.proofs.verdict.verify_with_preprocessed.Goals as goal

pub returns-in_err-domains-clause-refused : goal.returns-in_err-domains-clause-refused
returns-in_err-domains-clause-refused g c = carried _ _ _ c.from_residual.ensures (shape_refused c.in_err-domains.ensures.fault)

pub returns-in_err-domains-clause-exact : goal.returns-in_err-domains-clause-exact
returns-in_err-domains-clause-exact g c =
    carried _ _ _ c.from_residual.ensures (exact g.met.SC.Pcs.UnivariateStarkPcs.scheme_laws (shape_refused c.in_err-domains.ensures.fault))

pub returns-in_err-point-clause-refused : goal.returns-in_err-point-clause-refused
returns-in_err-point-clause-refused g c =
    carried _ _ _ c.from_residual-in_err-point.ensures (run_refused c.in_ok-domains.ensures.clear c.in_err-point.ensures.fault)

pub returns-in_err-point-clause-exact : goal.returns-in_err-point-clause-exact
returns-in_err-point-clause-exact g c =
    carried _ _ _ c.from_residual-in_err-point.ensures
    (exact g.met.SC.Pcs.UnivariateStarkPcs.scheme_laws (run_refused c.in_ok-domains.ensures.clear c.in_err-point.ensures.fault))

pub returns-in_err-check_equation-clause-refused : goal.returns-in_err-check_equation-clause-refused
returns-in_err-check_equation-clause-refused g c =
    carried _ _ _ c.from_residual-in_err-check_equation.ensures
    (equation_refused c.in_ok-domains.ensures.clear c.in_ok-point.ensures.holds c.in_err-check_equation.ensures.fault)

pub returns-in_err-check_equation-clause-exact : goal.returns-in_err-check_equation-clause-exact
returns-in_err-check_equation-clause-exact g c =
    carried _ _ _ c.from_residual-in_err-check_equation.ensures
    (exact g.met.SC.Pcs.UnivariateStarkPcs.scheme_laws (equation_refused c.in_ok-domains.ensures.clear c.in_ok-point.ensures.holds c.in_err-check_equation.ensures.fault))

pub returns-clause-sound : goal.returns-clause-sound
returns-clause-sound g c =
    sound_of_parts c.in_ok-domains.ensures.clear c.in_ok-point.ensures.holds c.in_ok-check_equation.ensures.holds g.met.SC.Challenge.Field.field_laws (g.met.A.Air.leaves_within c.args.air.now) (g.met.A.BaseAir.as_declared c.args.air.now)

pub returns-clause-accepted : goal.returns-clause-accepted
returns-clause-accepted g c = search rules

pub returns-clause-refused : goal.returns-clause-refused
returns-clause-refused g c = search rules

pub returns-clause-exact : goal.returns-clause-exact
returns-clause-exact g c = search rules

pub returns-in_err-point-clause-accepted : goal.returns-in_err-point-clause-accepted
returns-in_err-point-clause-accepted g c = search rules

pub returns-in_err-point-clause-sound : goal.returns-in_err-point-clause-sound
returns-in_err-point-clause-sound g c = search rules

pub returns-in_err-domains-clause-accepted : goal.returns-in_err-domains-clause-accepted
returns-in_err-domains-clause-accepted g c = search rules

pub returns-in_err-domains-clause-sound : goal.returns-in_err-domains-clause-sound
returns-in_err-domains-clause-sound g c = search rules

pub returns-in_err-check_equation-clause-accepted : goal.returns-in_err-check_equation-clause-accepted
returns-in_err-check_equation-clause-accepted g c = search rules

pub returns-in_err-check_equation-clause-sound : goal.returns-in_err-check_equation-clause-sound
returns-in_err-check_equation-clause-sound g c = search rules

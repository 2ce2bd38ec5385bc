use Rattle.stark_over_fri.proofs.AcceptedSteps.{of_shown}
use Rattle.stark_lookup_over_fri.proofs.verify.verify_with_lookups_over_fri.Goals as goal

pub returns-clause-sound : goal.returns-clause-sound
returns-clause-sound g c = of_shown c.verify_shown.result _ _ (λ shown. shown.sound) c.verify_shown.ensures.shown

pub returns-clause-beside : goal.returns-clause-beside
returns-clause-beside g c = of_shown c.verify_shown.result _ _ (λ shown. shown.beside) c.verify_shown.ensures.shown

pub returns-clause-few : goal.returns-clause-few
returns-clause-few g c = of_shown c.verify_shown.result _ _ (λ shown. shown.few) c.verify_shown.ensures.shown

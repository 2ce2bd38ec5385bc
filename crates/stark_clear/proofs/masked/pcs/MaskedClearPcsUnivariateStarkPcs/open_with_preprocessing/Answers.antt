use Rattle.std.specs.Prelude.{IfOk, Result, Ok, Err}
use Rattle.stark_clear.specs.ClearFacts.{true_claims}
use Rattle.stark_clear.proofs.masked.pcs.MaskedClearPcsUnivariateStarkPcs.open_with_preprocessing.Goals as goal

-- what holds of every answer
of_every_answer : {A B : Type 0} (r : Result A B) (P : A → Type 0) → ((a : A) → P a) → IfOk r P
of_every_answer (Ok a) P h = h a
of_every_answer (Err e) P h = tt

pub returns-clause-holds : goal.returns-clause-holds
returns-clause-holds g c =
    of_every_answer c.open_with_preprocessing.result _
    (λ opened made stand same complete. (true_claims g.EF.Field.ring g.EF.ExtensionField.embed g.row.C.Denot g.F.TwoAdicField.TWO_ADICITY (λ s. s.stops_at) _ c.args.self.now made stand, complete))

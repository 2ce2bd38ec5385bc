use Rattle.std.proofs.Common.{◌∙◌, ap, map}
use Rattle.stark_support.specs.Claims.{round_view}
use Rattle.stark_clear.specs.ClearFacts.{true_claims, true_openings}
use Rattle.stark_columns.specs.Opened.{opened_round}
use Rattle.stark_clear.proofs.clear.pcs.ClearPcsUnivariateStarkPcs.open_with_preprocessing.Goals as goal

pub returns-clause-true_values : goal.returns-clause-true_values
returns-clause-true_values g c = λ made stand same.
    let ring = g.EF.Field.ring in
    let embed = g.EF.ExtensionField.embed in
    c.in_ok-opened.ensures ∙ ap (λ t. map (opened_round ring embed) (map round_view t)) c.deref.ensures.value ∙ ap (map (opened_round ring embed)) same
    ∙ true_openings ring embed g.row.C.Denot g.F.TwoAdicField.TWO_ADICITY (λ s. s.stops_at) _ c.args.self.now made stand

pub returns-clause-holds : goal.returns-clause-holds
returns-clause-holds g c = λ made stand same complete.
    (true_claims g.EF.Field.ring g.EF.ExtensionField.embed g.row.C.Denot g.F.TwoAdicField.TWO_ADICITY (λ s. s.stops_at) _ c.args.self.now made stand, complete)

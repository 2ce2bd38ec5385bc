use Rattle.std.proofs.Common.{◌≡◌, ◌∙◌, ap, length, string_bytes}
use Rattle.stark_statement.specs.Configuration.{scheme_numbers}
use Rattle.stark_statement.specs.StatementView.{statement_view}
use Rattle.stark_service.specs.Description.{constraints_line, described, values_line}
use Rattle.stark_service.proofs.DescriptionSteps.{described_is}
use Rattle.stark_service.proofs.SecuritySteps.{if_ok}
use Rattle.stark_service.proofs.description.described.Goals as goal

pub returns : goal.returns
returns g c =
    let number = g.F.PrimeField64.number_of in
    if_ok _ (λ text. string_bytes text ≡ described number (scheme_numbers c.args.scheme) (statement_view c.args.statement.now)) c.format.result
    (λ text is. described_is number (scheme_numbers c.args.scheme) (statement_view c.args.statement.now) c.field_name-field.result.now (string_bytes c.in_ok-scheme.scheme) (string_bytes c.in_ok-height.height) (string_bytes c.in_ok-work.work) (string_bytes c.in_ok-values.values)
    c.constraints_line-none.result.now (string_bytes text) c.field_name-field.ensures c.in_ok-scheme.ensures c.in_ok-height.ensures c.in_ok-work.ensures (c.in_ok-values.ensures ∙ ap (values_line number) c.deref.ensures.value)
    (c.constraints_line-none.ensures ∙ ap (λ l. constraints_line (length l)) c.deref-constraints.ensures.value) is) c.format.ensures.ok

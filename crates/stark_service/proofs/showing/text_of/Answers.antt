use Rattle.std.proofs.Common.{◌∙◌, ◌++◌, ap, string_bytes}
use Rattle.stark_service.proofs.ShowSteps.{shows_statement}
use Rattle.stark_service.proofs.showing.text_of.Goals as goal

pub returns : goal.returns
returns g c =
    let text = string_bytes c.in_ok-text.text in
    shows_statement _ _ c.args.statement.now c.greatest_height-greatest.result c.greatest_height-greatest.ensures c.order.result c.DIMENSION.result c.order.ensures c.DIMENSION.ensures
    text (string_bytes c.in_ok-challenges.challenges) (string_bytes c.push_str.new.self) (string_bytes c.push_str-2.new.self) (string_bytes c.in_ok-security.security) (string_bytes c.in_ok-described.described) _
    c.in_ok-text.ensures.shown c.in_ok-text.ensures.whole c.in_ok-security.ensures c.in_ok-challenges.ensures c.in_ok-described.ensures
    (c.in_ok-push_str.ensures.bytes ∙ ap (λ t. text ++ t) c.deref.ensures)
    (c.in_ok-push_str-2.ensures.bytes ∙ ap (λ t. string_bytes c.push_str.new.self ++ t) c.deref-2.ensures)
    (c.in_ok-push_str-3.ensures.bytes ∙ ap (λ t. string_bytes c.push_str-2.new.self ++ t) c.deref-3.ensures)

use Rattle.std.proofs.Common.{◌∙◌, IsSome, refl, subst, sym}
use Rattle.stark_support.specs.Json.{json_of}
use Rattle.stark_statement.specs.StatementApart.{data_of}
use Rattle.stark_service.proofs.Configured.{json_unrepeated, repeated_configured, unnamed_configured, unread_configured, unread_statement_json}
use Rattle.stark_service.proofs.statement.read_configured.Goals as goal

pub returns-in-Err : goal.returns-in-Err
returns-in-Err c = unread_statement_json _ _ (unread_configured data_of _ _ _ (rw c.deref.ensures.value at c.in-Err.ensures) c.unread_text.ensures)

pub returns-in-Err-refuse_repeats : goal.returns-in-Err-refuse_repeats
returns-in-Err-refuse_repeats c =
    let refused = c.in-Err-refuse_repeats.ensures (subst (λ t. IsSome (json_of t)) (c.deref.ensures.value ∙ sym c.deref-2.ensures.value) (subst IsSome (sym c.in-Ok.ensures) refl)) in
    repeated_configured _ _ _ (rw c.deref-2.ensures.value at refused) c.unread_statement.ensures

pub returns-in-Ok-from_document : goal.returns-in-Ok-from_document
returns-in-Ok-from_document c =
    let kept = c.in_default.ensures (subst (λ t. IsSome (json_of t)) (c.deref.ensures.value ∙ sym c.deref-2.ensures.value) (subst IsSome (sym c.in-Ok.ensures) refl)) in (
      json_unrepeated _ _ (rw c.deref.ensures.value at c.in-Ok.ensures) (rw c.deref-2.ensures.value at kept),
      c.in-Ok-from_document.ensures.decoded,
      c.in-Ok-from_document.ensures.fits,
    )

pub returns : goal.returns
returns c =
    let kept = c.in_default.ensures (subst (λ t. IsSome (json_of t)) (c.deref.ensures.value ∙ sym c.deref-2.ensures.value) (subst IsSome (sym c.in-Ok.ensures) refl)) in
    unnamed_configured _ _ _ _ (json_unrepeated _ _ (rw c.deref.ensures.value at c.in-Ok.ensures) (rw c.deref-2.ensures.value at kept)) c.in-Err-from_document.ensures.decoded c.unread_statement-in-Err-from_document.ensures

use Rattle.std.proofs.Common.{◌≡◌, ◌∙◌, ◌∷◌, ◌<◌, Some, ap, subst, sym, true≢false}
use Rattle.std.proofs.lemmas.Bool.{false≢true}
use Rattle.json.specs.Reads.{token_of}
use Rattle.json.specs.Token.{Token}
use Rattle.stark_statement.proofs.RepeatSteps.{found_in_text, names_of_objects, new_name, nothing_in, object_begun, object_ended, old_name, outside_objects, scan}
use Rattle.stark_statement.proofs.repeats.first_repeat.Goals as goal

pub tokens-preserved-in_ok-push-in-BeginObject : goal.tokens-preserved-in_ok-push-in-BeginObject
tokens-preserved-in_ok-push-in-BeginObject c =
    let begins = c.in-Some.ensures.value ∙ ap (λ t. token_of t ∷ c.next.new.self) c.in-BeginObject.is in
    c.tokens.invariant ∙ object_begun c.tokens.objects.items c.tokens.reader c.next.new.self c.push.new.self.items c.new-in-BeginObject.result begins
    c.in_ok-push-in-BeginObject.ensures.items c.new-in-BeginObject.ensures.empty

pub tokens-preserved-in-EndObject : goal.tokens-preserved-in-EndObject
tokens-preserved-in-EndObject c =
    let ends = c.in-Some.ensures.value ∙ ap (λ t. token_of t ∷ c.next.new.self) c.in-EndObject.is in
    c.tokens.invariant ∙ object_ended c.tokens.objects.items c.tokens.reader c.next.new.self c.pop.new.self.items c.pop.result ends c.pop.ensures.items
    (λ none. nothing_in c.tokens.objects.items (λ some. true≢false (sym (c.pop.ensures.variant.1 (subst (λ n. 0 < n) (sym c.tokens.objects.ok.0) some)) ∙ none)))

pub returns-in_default-pop : goal.returns-in_default-pop
returns-in_default-pop c = λ some.
    let named = c.in-Some.ensures.value ∙ ap (λ t. token_of t ∷ c.next.new.self) c.in-Key.is ∙ ap (λ k. Token.key k ∷ c.next.new.self) (sym c.in_ok-name-in-Key.ensures) in
    sym (outside_objects c.tokens.objects.items c.tokens.reader c.next.new.self c.in_ok-name-in-Key.name.name named
    (nothing_in c.tokens.objects.items (λ some. false≢true (c.in_default-pop.ensures.variant.1 (subst (λ n. 0 < n) (sym c.tokens.objects.ok.0) some))))) ∙ sym c.tokens.invariant ∙ found_in_text c.args.text.now some

pub returns-then-is_some : goal.returns-then-is_some
returns-then-is_some c = λ some.
    let named = c.in-Some.ensures.value ∙ ap (λ t. token_of t ∷ c.next.new.self) c.in-Key.is ∙ ap (λ k. Token.key k ∷ c.next.new.self) (sym c.in_ok-from_str-in-Key.ensures.ok) in
    ap Some (c.in_ok-name-in-Key.ensures ∙ sym c.in_ok-from_str-in-Key.ensures.ok)
    ∙ sym (old_name c.tokens.objects.items c.tokens.reader c.next.new.self c.in_ok-from_str-in-Key.field-0 named c.pop-in-Key.new.self.items c.in-Some-pop.names c.in-Some-pop.ensures.items
    c.in_ok-old-in-Key.old c.in_ok-old-in-Key.ensures.old (sym c.is_some.ensures ∙ c.if-is_some.true)) ∙ sym c.tokens.invariant ∙ found_in_text c.args.text.now some

pub tokens-preserved-in-Key : goal.tokens-preserved-in-Key
tokens-preserved-in-Key c =
    let named = c.in-Some.ensures.value ∙ ap (λ t. token_of t ∷ c.next.new.self) c.in-Key.is ∙ ap (λ k. Token.key k ∷ c.next.new.self) (sym c.in_ok-from_str-in-Key.ensures.ok) in
    c.tokens.invariant ∙ new_name c.tokens.objects.items c.tokens.reader c.next.new.self c.in_ok-from_str-in-Key.field-0 named c.pop-in-Key.new.self.items c.in-Some-pop.names
    c.in-Some-pop.ensures.items c.in_ok-old-in-Key.old c.in_ok-old-in-Key.ensures.old (sym c.is_some.ensures ∙ c.if-is_some.false) c.insert.new.self c.in_ok-old-in-Key.ensures.entries
    c.push-in-Key.new.self.items c.in_ok-push-in-Key.ensures.items

pub returns : goal.returns
returns c = λ some. sym (ap (scan (names_of_objects c.tokens.objects.items)) c.in_default.ensures.value.0) ∙ sym c.tokens.invariant ∙ found_in_text c.args.text.now some

use Rattle.std.proofs.Common.{◌∙◌, ◌-◌, ◌+◌, ◌++◌, ◌∷◌, [], Bor, List, length, map, ap, sym, rules}
use Rattle.std.proofs.lemmas.List.{length-map}
use Rattle.std.proofs.lemmas.Result.{err_from_is_err_and}
use Rattle.stark_language.specs.declared.tree.Item.{Item}
use Rattle.stark_language.specs.declared.token.Lexeme.{Lexeme as CodeLexeme}
use Rattle.stark_language.specs.Lists.{item_at}
use Rattle.stark_language.specs.Faults.{ahead, many}
use Rattle.stark_language.specs.Lists.{items_at, next_item}
use Rattle.stark_language.specs.Tokens.{lexeme_view}
use Rattle.stark_language.proofs.Many.{many_begins, many_done, many_fails, many_goes, many_stops}
use Rattle.stark_language.proofs.list.items_at.Goals as goal

pub loop-step-init : goal.loop-step-init
unfolding items_at
loop-step-init c = many_begins next_item (λ n. n ∷ []) (item_at (map lexeme_view c.args.tokens.now)) c.in_ok-first.first (map lexeme_view c.in_ok-first.rest.now) c.push.new.self.items (length c.in_ok-first.rest.now) c.in_ok-first.ensures (sym (length-map c.in_ok-first.rest.now lexeme_view)) (c.in_ok-push.ensures.items ∙ ap (λ xs. xs ++ c.in_ok-first.first ∷ []) c.new-items.ensures.items)

pub loop-step-preserved : goal.loop-step-preserved
loop-step-preserved c =
    let more = c.in_ok-push-2.ensures.items in
    ap (λ front. ahead front (many next_item ((length c.in_ok-first.rest.now) - (c.loop-step._step + 1)) (map lexeme_view c.in-Some.after.now))) more
    ∙ many_goes next_item (items_at (map lexeme_view c.args.tokens.now)) c.loop-step.items.items (length c.in_ok-first.rest.now) c.loop-step._step (map lexeme_view c.loop-step.rest.now) (λ (r : Item × Bor (List CodeLexeme)). (r.0 ∷ [], map lexeme_view r.1.now)) c.in_ok-item.field-0 (c.in-Some.item, c.in-Some.after) c.loop-step-test.true c.in_ok-item.ensures c.in-Some.is c.loop-step.invariant

pub returns-in_err-first : goal.returns-in_err-first
unfolding items_at
returns-in_err-first c = search rules

pub returns-in_err-item : goal.returns-in_err-item
returns-in_err-item c =
    let p = err_from_is_err_and c.from_residual-in_err-item.result c.from_residual-in_err-item.ensures.1 in
    rw (p.1, p.2) (many_fails next_item (items_at (map lexeme_view c.args.tokens.now)) c.loop-step.items.items (length c.in_ok-first.rest.now) c.loop-step._step (map lexeme_view c.loop-step.rest.now) c.in_err-item.field-0.0 c.loop-step-test.true c.in_err-item.ensures c.loop-step.invariant)

pub returns-in_default : goal.returns-in_default
returns-in_default c =
    many_stops next_item (items_at (map lexeme_view c.args.tokens.now)) c.loop-step.items.items (length c.in_ok-first.rest.now) c.loop-step._step (map lexeme_view c.loop-step.rest.now) (λ (r : Item × Bor (List CodeLexeme)). (r.0 ∷ [], map lexeme_view r.1.now)) c.in_ok-item.field-0 c.loop-step-test.true c.in_ok-item.ensures c.in_default.is c.loop-step.invariant

pub returns : goal.returns
returns c = many_done next_item (items_at (map lexeme_view c.args.tokens.now)) c.loop-step.items.items (length c.in_ok-first.rest.now) c.loop-step._step (map lexeme_view c.loop-step.rest.now) c.loop-step-test.false c.loop-step.invariant

use Rattle.std.proofs.Common.{◌∙◌, ◌-◌, ◌+◌, ◌++◌, ◌∷◌, [], Bor, List, length, map, ap, sym, rules}
use Rattle.std.proofs.lemmas.List.{length-map, map-append}
use Rattle.std.proofs.lemmas.Result.{err_from_is_err_and}
use Rattle.stark_language.specs.Expressions.{name_view}
use Rattle.stark_language.specs.declared.tree.Name.{Name as CodeName}
use Rattle.stark_language.specs.declared.token.Lexeme.{Lexeme as CodeLexeme}
use Rattle.stark_language.specs.Cursor.{name_at}
use Rattle.stark_language.specs.Faults.{ahead, many}
use Rattle.stark_language.specs.Lists.{names_at, next_name}
use Rattle.stark_language.specs.Tokens.{lexeme_view}
use Rattle.stark_language.proofs.Many.{many_begins, many_done, many_fails, many_goes, many_stops}
use Rattle.stark_language.proofs.list.names_at.Goals as goal

pub loop-step-init : goal.loop-step-init
unfolding names_at
loop-step-init c = many_begins next_name (λ n. n ∷ []) (name_at (map lexeme_view c.args.tokens.now)) (name_view c.in_ok-first.first) (map lexeme_view c.in_ok-first.rest.now) (map name_view c.push.new.self.items) (length c.in_ok-first.rest.now) c.in_ok-first.ensures (sym (length-map c.in_ok-first.rest.now lexeme_view)) (ap (map name_view) (c.in_ok-push.ensures.items ∙ ap (λ xs. xs ++ c.in_ok-first.first ∷ []) c.new-names.ensures.items))

pub loop-step-preserved : goal.loop-step-preserved
loop-step-preserved c =
    let more = ap (map name_view) c.in_ok-push-2.ensures.items ∙ map-append name_view c.loop-step.names.items (c.in-Some.name ∷ []) in
    ap (λ front. ahead front (many next_name ((length c.in_ok-first.rest.now) - (c.loop-step._step + 1)) (map lexeme_view c.in-Some.after.now))) more
    ∙ many_goes next_name (names_at (map lexeme_view c.args.tokens.now)) (map name_view c.loop-step.names.items) (length c.in_ok-first.rest.now) c.loop-step._step (map lexeme_view c.loop-step.rest.now) (λ (r : CodeName × Bor (List CodeLexeme)). (name_view r.0 ∷ [], map lexeme_view r.1.now)) c.in_ok-name.field-0 (c.in-Some.name, c.in-Some.after) c.loop-step-test.true c.in_ok-name.ensures c.in-Some.is c.loop-step.invariant

pub returns-in_err-first : goal.returns-in_err-first
unfolding names_at
returns-in_err-first c = search rules

pub returns-in_err-name : goal.returns-in_err-name
returns-in_err-name c =
    let p = err_from_is_err_and c.from_residual-in_err-name.result c.from_residual-in_err-name.ensures.1 in
    rw (p.1, p.2) (many_fails next_name (names_at (map lexeme_view c.args.tokens.now)) (map name_view c.loop-step.names.items) (length c.in_ok-first.rest.now) c.loop-step._step (map lexeme_view c.loop-step.rest.now) c.in_err-name.field-0.0 c.loop-step-test.true c.in_err-name.ensures c.loop-step.invariant)

pub returns-in_default : goal.returns-in_default
returns-in_default c =
    many_stops next_name (names_at (map lexeme_view c.args.tokens.now)) (map name_view c.loop-step.names.items) (length c.in_ok-first.rest.now) c.loop-step._step (map lexeme_view c.loop-step.rest.now) (λ (r : CodeName × Bor (List CodeLexeme)). (name_view r.0 ∷ [], map lexeme_view r.1.now)) c.in_ok-name.field-0 c.loop-step-test.true c.in_ok-name.ensures c.in_default.is c.loop-step.invariant

pub returns : goal.returns
returns c = many_done next_name (names_at (map lexeme_view c.args.tokens.now)) (map name_view c.loop-step.names.items) (length c.in_ok-first.rest.now) c.loop-step._step (map lexeme_view c.loop-step.rest.now) c.loop-step-test.false c.loop-step.invariant

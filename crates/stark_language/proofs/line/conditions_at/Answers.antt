use Rattle.std.proofs.Common.{◌∙◌, ◌-◌, ◌+◌, ◌++◌, Bor, Global, List, Vec, length, map, ap, sym, refl, rules}
use Rattle.std.proofs.lemmas.List.{length-map, map-append}
use Rattle.std.proofs.lemmas.Result.{err_from_is_err_and}
use Rattle.stark_language.specs.Expressions.{step_view}
use Rattle.stark_language.specs.declared.tree.Step.{Step as CodeStep}
use Rattle.stark_language.specs.declared.token.Lexeme.{Lexeme as CodeLexeme}
use Rattle.stark_language.specs.Expressions.{expression_at}
use Rattle.stark_language.specs.Faults.{ahead, many}
use Rattle.stark_language.specs.Lines.{conditions_at, next_condition}
use Rattle.stark_language.specs.Tokens.{lexeme_view}
use Rattle.stark_language.proofs.Many.{many_begins, many_done, many_fails, many_goes, many_stops}
use Rattle.stark_language.proofs.line.conditions_at.Goals as goal

pub loop-step-init : goal.loop-step-init
unfolding conditions_at
loop-step-init c = many_begins next_condition (λ s. s) (expression_at (map lexeme_view c.args.tokens.now)) (map step_view c.in_ok-condition.condition.items) (map lexeme_view c.in_ok-condition.rest.now) (map step_view c.in_ok-condition.condition.items) (length c.in_ok-condition.rest.now) c.in_ok-condition.ensures (sym (length-map c.in_ok-condition.rest.now lexeme_view)) refl

pub loop-step-preserved : goal.loop-step-preserved
loop-step-preserved c =
    let more = ap (map step_view) (c.in_ok-extend_from_slice.ensures.items ∙ ap (λ xs. c.loop-step.condition.items ++ xs) c.deref.ensures.value) ∙ map-append step_view c.loop-step.condition.items c.in-Some.steps.items in
    ap (λ front. ahead front (many next_condition ((length c.in_ok-condition.rest.now) - (c.loop-step._step + 1)) (map lexeme_view c.in-Some.after.now))) more
    ∙ many_goes next_condition (conditions_at (map lexeme_view c.args.tokens.now)) (map step_view c.loop-step.condition.items) (length c.in_ok-condition.rest.now) c.loop-step._step (map lexeme_view c.loop-step.rest.now) (λ (r : Vec CodeStep Global × Bor (List CodeLexeme)). (map step_view r.0.items, map lexeme_view r.1.now)) c.in_ok-steps.field-0 (c.in-Some.steps, c.in-Some.after) c.loop-step-test.true c.in_ok-steps.ensures c.in-Some.is c.loop-step.invariant

pub returns-in_err-condition : goal.returns-in_err-condition
unfolding conditions_at
returns-in_err-condition c = search rules

pub returns-in_err-steps : goal.returns-in_err-steps
returns-in_err-steps c =
    let p = err_from_is_err_and c.from_residual-in_err-steps.result c.from_residual-in_err-steps.ensures.1 in
    rw (p.1, p.2) (many_fails next_condition (conditions_at (map lexeme_view c.args.tokens.now)) (map step_view c.loop-step.condition.items) (length c.in_ok-condition.rest.now) c.loop-step._step (map lexeme_view c.loop-step.rest.now) c.in_err-steps.field-0.0 c.loop-step-test.true c.in_err-steps.ensures c.loop-step.invariant)

pub returns-in_default : goal.returns-in_default
returns-in_default c =
    many_stops next_condition (conditions_at (map lexeme_view c.args.tokens.now)) (map step_view c.loop-step.condition.items) (length c.in_ok-condition.rest.now) c.loop-step._step (map lexeme_view c.loop-step.rest.now) (λ (r : Vec CodeStep Global × Bor (List CodeLexeme)). (map step_view r.0.items, map lexeme_view r.1.now)) c.in_ok-steps.field-0 c.loop-step-test.true c.in_ok-steps.ensures c.in_default.is c.loop-step.invariant

pub returns : goal.returns
returns c = many_done next_condition (conditions_at (map lexeme_view c.args.tokens.now)) (map step_view c.loop-step.condition.items) (length c.in_ok-condition.rest.now) c.loop-step._step (map lexeme_view c.loop-step.rest.now) c.loop-step-test.false c.loop-step.invariant

use Rattle.std.proofs.Common.{◌∙◌, ◌-◌, ◌+◌, ◌∷◌, [], Bor, List, length, map, ap, arith}
use Rattle.std.proofs.lemmas.List.{length-map, map-append}
use Rattle.std.proofs.lemmas.Result.{err_from_is_err_and}
use Rattle.stark_language.specs.declared.tree.Line.{Line as CodeLine}
use Rattle.stark_language.specs.declared.token.Lexeme.{Lexeme as CodeLexeme}
use Rattle.stark_language.specs.Faults.{ahead, many}
use Rattle.stark_language.specs.Lines.{lines_at, next_line, line_view}
use Rattle.stark_language.specs.Tokens.{lexeme_view}
use Rattle.stark_language.proofs.Many.{ahead-nil, many_done, many_fails, many_goes, many_stops}
use Rattle.stark_language.proofs.line.lines_at.Goals as goal

pub loop-step-init : goal.loop-step-init
unfolding lines_at
loop-step-init c = ap (λ xs. ahead (map line_view xs) (many next_line (length c.args.tokens.now - 0) (map lexeme_view c.split_at.result.1.now))) c.new-lines.ensures.items ∙ ahead-nil _ ∙ ap (λ ts. many next_line (length c.args.tokens.now - 0) (map lexeme_view ts)) c.split_at.ensures.back ∙ ap (λ n. many next_line n (map lexeme_view c.args.tokens.now)) (omega (arith, length-map c.args.tokens.now lexeme_view))

pub loop-step-preserved : goal.loop-step-preserved
loop-step-preserved c =
    let more = ap (map line_view) c.in_ok-push.ensures.items ∙ map-append line_view c.loop-step.lines.items (c.in-Some.line ∷ []) in
    ap (λ front. ahead front (many next_line ((length c.args.tokens.now) - (c.loop-step._step + 1)) (map lexeme_view c.in-Some.after.now))) more
    ∙ many_goes next_line (lines_at (map lexeme_view c.args.tokens.now)) (map line_view c.loop-step.lines.items) (length c.args.tokens.now) c.loop-step._step (map lexeme_view c.loop-step.rest.now) (λ (r : CodeLine × Bor (List CodeLexeme)). (line_view r.0 ∷ [], map lexeme_view r.1.now)) c.in_ok-line.field-0 (c.in-Some.line, c.in-Some.after) c.loop-step-test.true c.in_ok-line.ensures c.in-Some.is c.loop-step.invariant

pub returns-in_err-line : goal.returns-in_err-line
returns-in_err-line c =
    let p = err_from_is_err_and c.from_residual.result c.from_residual.ensures.1 in
    rw (p.1, p.2) (many_fails next_line (lines_at (map lexeme_view c.args.tokens.now)) (map line_view c.loop-step.lines.items) (length c.args.tokens.now) c.loop-step._step (map lexeme_view c.loop-step.rest.now) c.in_err-line.field-0.0 c.loop-step-test.true c.in_err-line.ensures c.loop-step.invariant)

pub returns-in_default : goal.returns-in_default
returns-in_default c =
    many_stops next_line (lines_at (map lexeme_view c.args.tokens.now)) (map line_view c.loop-step.lines.items) (length c.args.tokens.now) c.loop-step._step (map lexeme_view c.loop-step.rest.now) (λ (r : CodeLine × Bor (List CodeLexeme)). (line_view r.0 ∷ [], map lexeme_view r.1.now)) c.in_ok-line.field-0 c.loop-step-test.true c.in_ok-line.ensures c.in_default.is c.loop-step.invariant

pub returns : goal.returns
returns c = many_done next_line (lines_at (map lexeme_view c.args.tokens.now)) (map line_view c.loop-step.lines.items) (length c.args.tokens.now) c.loop-step._step (map lexeme_view c.loop-step.rest.now) c.loop-step-test.false c.loop-step.invariant

use Rattle.std.proofs.Common.{◌∙◌, ◌<◌, ◌≤◌, subst, Ok, drop, map, length, ap, sym, arith, length-drop}
use Rattle.stark_language.specs.Faults.{with_front}
use Rattle.stark_language.specs.Tokens.{front_of, front_view, lexeme_view, lexemes_from}
use Rattle.stark_language.proofs.Scanning.{lexemes_end, lexemes_fault, lexemes_turn, rest_is}
use Rattle.stark_language.proofs.lexer.lexemes_of.Goals as goal

pub returns-in-Err : goal.returns-in-Err
returns-in-Err c =
    let text = c.args.text.now in
    let at = c.loop-at.at in
    let some : 0 < length (drop at text) = omega (arith, length-drop at text) in
    let here = lexemes_fault at (drop at text) c.in-Err.kind some (ap front_of (sym (rest_is text at)) ∙ c.in-Err.ensures.exact) in
    sym c.loop-at.invariant.whole ∙ ap (with_front (map lexeme_view c.loop-at.lexemes.items)) here

pub loop-at-preserved : goal.loop-at-preserved
loop-at-preserved c =
    let text = c.args.text.now in
    let at = c.loop-at.at in
    let front = front_view c.in-Ok.front in
    let within : front.length ≤ length (drop at text) = subst (λ ys. front.length ≤ length ys) (rest_is text at) c.in-Ok.ensures.within in
    let turn = lexemes_turn text (lexemes_from 0 0 text) (map lexeme_view c.loop-at.lexemes.items) at front (ap front_of (sym (rest_is text at)) ∙ c.in-Ok.ensures.exact) c.in-Ok.ensures.some within c.loop-at.invariant.whole in
    record { within = omega (arith, length-drop at text); whole = rw c.in_ok-push_token.ensures turn }

pub returns : goal.returns
returns c =
    let text = c.args.text.now in
    let at = c.loop-at.at in
    let here = lexemes_end at (drop at text) (omega (arith, length-drop at text)) in
    sym c.loop-at.invariant.whole ∙ ap (with_front (map lexeme_view c.loop-at.lexemes.items)) here ∙ ap Ok (sym c.in_ok-push_token-2.ensures)

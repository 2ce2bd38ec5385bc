use Rattle.std.proofs.Common.{◌∙◌, Ok, drop, map, true, false, ap, sym, arith}
use Rattle.stark_language.proofs.Scanning.{all_kept, ended_turn, one_kept}
use Rattle.stark_language.specs.Tokens.{end, ended, lexeme_view, token_view}
use Rattle.stark_language.proofs.lexer.ended.Goals as goal
use Rattle.stark_language.proofs.lexer.ended.Goals.{then-not-is_dropped+in_ok-push, else-not-is_dropped}

pub loop-place-preserved : goal.loop-place-preserved
loop-place-preserved c =
    let xs = c.args.lexemes.now in
    let i = c.loop-place.place in
    let depth = c.loop-place.depth in
    let before = token_view c.loop-place.before in
    elim c.if-not-is_dropped.branch [
      | then-not-is_dropped+in_ok-push w ↦
          let turn = ended_turn lexeme_view xs i _ depth before false c.loop-place-test.true (sym w.if-not-is_dropped.true ∙ c.is_dropped.ensures) in
          let more = one_kept lexeme_view c.loop-place.kept.items w.push.new.self.items _ (ended depth before (map lexeme_view (drop i xs))) _ (ended 0 end (map lexeme_view xs)) w.in_ok-push.ensures.items turn c.loop-place.invariant.whole in
          record { shallow = omega arith; whole = cc }
      | else-not-is_dropped w ↦
          let turn = ended_turn lexeme_view xs i _ depth before true c.loop-place-test.true (sym w.if-not-is_dropped.false ∙ c.is_dropped.ensures) in
          record { shallow = omega arith; whole = cc }
    ]

pub returns : goal.returns
returns c =
    ap Ok (all_kept lexeme_view c.args.lexemes.now c.loop-place.place c.loop-place.depth (token_view c.loop-place.before) (map lexeme_view c.loop-place.kept.items) _ c.loop-place-test.false c.loop-place.invariant.whole)

use Rattle.std.proofs.Common.{◌+◌, ◌∙◌, ap, arith}
use Rattle.std.specs.Prelude.{count_by}
use Rattle.std.specs.List.{after_last}
use Rattle.std.proofs.lemmas.List.{take_all}
use Rattle.stark_text_faults.specs.Places.{begins_character, column_after, is_line_feed, line_after}
use Rattle.stark_text_faults.proofs.place.place_after.Goals as goal

pub returns-clause-line : goal.returns-clause-line
unfolding line_after
returns-clause-line c = c.loop-at.invariant.line ∙ ap (λ front. 1 + count_by is_line_feed front) (take_all c.loop-at.at c.args.front.now (omega arith))

pub returns-clause-column : goal.returns-clause-column
unfolding column_after
returns-clause-column c = c.loop-at.invariant.column ∙ ap (λ front. 1 + count_by begins_character (after_last is_line_feed front)) (take_all c.loop-at.at c.args.front.now (omega arith))

use Rattle.std.proofs.Common.{◌≡◌, ◌+◌, take}
use Rattle.std.specs.Prelude.{count_by}
use Rattle.std.specs.List.{after_last}
use Rattle.stark_text_faults.specs.Places.{begins_character, is_line_feed}
use Rattle.stark_text_faults.proofs.place.place_after.Given as goal

abbrev pub invariant-loop-at : goal.invariant-loop-at
invariant-loop-at l = record {
  line : l.line ≡ 1 + count_by is_line_feed (take l.at l.front);
  column : l.column ≡ 1 + count_by begins_character (after_last is_line_feed (take l.at l.front));
}

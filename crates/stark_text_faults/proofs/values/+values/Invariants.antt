use Rattle.std.proofs.Common.{◌+◌, ◌*◌, ◌≤◌, length}
use Rattle.stark_text_faults.proofs.values.+values.Given as goal

abbrev pub decreases-after_value : goal.decreases-after_value
decreases-after_value l = 3 * length l.text.now

abbrev pub decreases-after_array : goal.decreases-after_array
decreases-after_array l = 3 * length l.text.now + 1

abbrev pub decreases-after_member : goal.decreases-after_member
decreases-after_member l = 3 * length l.text.now + 1

abbrev pub decreases-after_object : goal.decreases-after_object
decreases-after_object l = 3 * length l.text.now + 2

abbrev pub invariant-after_array-loop : goal.invariant-after_array-loop
invariant-after_array-loop l = length l.rest ≤ length l.text

abbrev pub invariant-after_object-loop : goal.invariant-after_object-loop
invariant-after_object-loop l = length l.rest ≤ length l.text

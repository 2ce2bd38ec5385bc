use Rattle.std.proofs.Common.{◌+◌, ◌*◌, length}
use Rattle.serde_json.specs.View.{members_view, view}
use Rattle.stark_json.proofs.SoFar.{ItemsSoFar, MembersSoFar}
use Rattle.stark_json.proofs.values.+read.Given as goal

abbrev pub decreases-read : goal.decreases-read
decreases-read l = 2 * l.depth

abbrev pub decreases-read_items : goal.decreases-read_items
decreases-read_items l = 2 * l.depth + 1

abbrev pub decreases-read_members : goal.decreases-read_members
decreases-read_members l = 2 * l.depth + 1

abbrev pub invariant-read_items-items : goal.invariant-read_items-items
invariant-read_items-items l = ItemsSoFar view l.depth l.initial.reader l.reader l.values.items

abbrev pub decreases-read_items-items : goal.decreases-read_items-items
decreases-read_items-items l = length l.reader

abbrev pub invariant-read_members-members : goal.invariant-read_members-members
invariant-read_members-members l = MembersSoFar l.depth l.initial.reader l.reader (members_view l.object.entries)

abbrev pub decreases-read_members-members : goal.decreases-read_members-members
decreases-read_members-members l = length l.reader

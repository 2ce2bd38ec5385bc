use Rattle.std.proofs.Common.{◌≡◌, ◌+◌, ◌*◌, false, length, map, None}
use Rattle.serde_json.specs.View.{members_view}
use Rattle.stark_json.specs.Apart.{joined_members, rows_apart}
use Rattle.stark_json.proofs.Changed.{HasNone}
use Rattle.stark_json.proofs.SoFar.{MembersSoFar}
use Rattle.stark_json.proofs.apart.+read_at.Given as goal

abbrev pub decreases-read_at : goal.decreases-read_at
decreases-read_at l = 2 * length l.path.now

abbrev pub decreases-read_members_at : goal.decreases-read_members_at
decreases-read_members_at l = 2 * length l.path.now + 1

abbrev pub invariant-read_members_at-members : goal.invariant-read_members_at-members
invariant-read_members_at-members l = record {
  so_far : MembersSoFar l.depth l.initial.reader l.reader (joined_members l.name (map (λ name. name.now) l.path) (rows_apart l.rows) (members_view l.object.entries));
  unseen : l.seen ≡ false → (rows_apart l.rows ≡ None) × HasNone l.name (members_view l.object.entries);
}

abbrev pub decreases-read_members_at-members : goal.decreases-read_members_at-members
decreases-read_members_at-members l = length l.reader

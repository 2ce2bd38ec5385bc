use Rattle.std.proofs.Common.{ℕ}
use Rattle.stark_lookup_extension.proofs.GroupSteps.{GroupSoFar}
use Rattle.stark_lookup_extension.proofs.groups.written_group.Given as goal

abbrev pub invariant-loop-given : goal.invariant-loop-given
invariant-loop-given g l = (nodes : ℕ) → GroupSoFar g.F.Field.ring nodes l.fn.list l.parts l.group l.given-index l.all.items l.list

use Rattle.std.proofs.Common.{ℕ}
use Rattle.stark_lookup_extension.proofs.GroupSteps.{LookupSoFar}
use Rattle.stark_lookup_extension.proofs.groups.written_lookup.Given as goal

abbrev pub invariant-loop-group : goal.invariant-loop-group
invariant-loop-group g l = (nodes : ℕ) → LookupSoFar g.F.Field.ring nodes l.fn.list l.parts l.groups l.group-index l.all.items l.list

use Rattle.std.proofs.Common.{◌≡◌}
use Rattle.serde_json.specs.View.{members_view}
use Rattle.stark_json.specs.Apart.{names_of}
use Rattle.stark_json.specs.Names.{first_unknown}
use Rattle.stark_json.proofs.names.first_unknown.Given as goal

-- The first of all is the first of those that are left.
abbrev pub invariant-loop-name : goal.invariant-loop-name
invariant-loop-name l = first_unknown (names_of l.names) (members_view l.name-iterator) ≡ first_unknown (names_of l.names) (members_view l.members.entries)

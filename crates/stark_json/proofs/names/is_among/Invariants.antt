use Rattle.std.proofs.Common.{◌≡◌, drop}
use Rattle.stark_json.specs.Apart.{names_of}
use Rattle.stark_json.specs.Names.{is_among}
use Rattle.stark_json.proofs.names.is_among.Given as goal

-- It is one of all where it is one of those that are left.
abbrev pub invariant-loop-known : goal.invariant-loop-known
invariant-loop-known l = is_among l.name (names_of (drop l.known-index l.names)) ≡ is_among l.name (names_of l.names)

use Rattle.std.proofs.Common.{◌≡◌, drop}
use Rattle.stark_lookup_extension.specs.ExtensionFaults.{lookup_fault}
use Rattle.stark_lookup_extension.proofs.fault.lookup_fault.Given as goal

abbrev pub invariant-loop-group : goal.invariant-loop-group
invariant-loop-group l = lookup_fault l.limits l.lookup l.group (drop l.group l.given) ≡ lookup_fault l.limits l.lookup 0 l.given

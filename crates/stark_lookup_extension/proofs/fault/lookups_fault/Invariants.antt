use Rattle.std.proofs.Common.{◌≡◌, drop}
use Rattle.stark_lookup_extension.specs.ExtensionFaults.{lookups_fault}
use Rattle.stark_lookup_extension.proofs.fault.lookups_fault.Given as goal

abbrev pub invariant-loop-lookup : goal.invariant-loop-lookup
invariant-loop-lookup l = lookups_fault l.limits l.lookup (drop l.lookup l.given) ≡ lookups_fault l.limits 0 l.given

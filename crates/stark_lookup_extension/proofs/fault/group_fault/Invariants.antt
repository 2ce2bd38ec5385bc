use Rattle.std.proofs.Common.{◌≡◌, drop}
use Rattle.stark_lookup_extension.specs.ExtensionFaults.{group_fault}
use Rattle.stark_lookup_extension.proofs.fault.group_fault.Given as goal

abbrev pub invariant-loop-interaction : goal.invariant-loop-interaction
invariant-loop-interaction l = group_fault l.limits l.lookup l.group l.interaction (drop l.interaction l.given) ≡ group_fault l.limits l.lookup l.group 0 l.given

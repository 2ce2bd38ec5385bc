use Rattle.std.proofs.Common.{◌≡◌, drop}
use Rattle.stark_lookup_extension.specs.ExtensionFaults.{all_below}
use Rattle.stark_lookup_extension.proofs.fault.all_below.Given as goal

abbrev pub invariant-loop-place : goal.invariant-loop-place
invariant-loop-place l = all_below l.count (drop l.place-index l.places) ≡ all_below l.count l.places

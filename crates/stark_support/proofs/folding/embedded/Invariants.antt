use Rattle.std.proofs.Common.{◌≡◌, ◌++◌, map, drop}
use Rattle.stark_support.proofs.folding.embedded.Given as goal

abbrev pub invariant-loop-value : goal.invariant-loop-value
invariant-loop-value g l = l.above.items ++ map g.EF.ExtensionField.embed (drop l.value-index l.values) ≡ map g.EF.ExtensionField.embed l.values

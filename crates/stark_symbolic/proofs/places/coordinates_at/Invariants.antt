use Rattle.std.proofs.Common.{◌≡◌, Some, map, take}
use Rattle.std.specs.List.{slice_get}
use Rattle.stark_symbolic.proofs.places.coordinates_at.Given as goal

abbrev pub invariant-loop-value : goal.invariant-loop-value
invariant-loop-value g l = map (λ c. Some c) l.row.items ≡ map (λ x. slice_get (g.EF.ExtensionField.coordinates x) l.d) (take l.value-index l.values)

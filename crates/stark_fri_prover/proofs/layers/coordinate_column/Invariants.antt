use Rattle.std.proofs.Common.{◌≡◌, ◌++◌, drop, map}
use Rattle.stark_fri_prover.specs.Words.{coordinate_at}
use Rattle.stark_fri_prover.proofs.layers.coordinate_column.Given as goal

abbrev pub invariant-loop-element : goal.invariant-loop-element
invariant-loop-element g l =
    let f = coordinate_at g.EF.ExtensionField.coordinates g.F.Field.ring.zero l.place in
    l.column.items ++ map f (drop l.element-index l.elements) ≡ map f l.elements

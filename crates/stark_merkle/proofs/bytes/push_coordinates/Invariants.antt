use Rattle.std.proofs.Common.{◌≡◌, ◌++◌, drop}
use Rattle.stark_merkle.specs.Bytes.{element_bytes, elements_bytes}
use Rattle.stark_merkle.proofs.bytes.push_coordinates.Given as goal

abbrev pub invariant-loop-index : goal.invariant-loop-index
invariant-loop-index g l =
    l.bytes.items ++ elements_bytes (element_bytes g.F.PrimeField64.BYTES g.F.PrimeField64.number_of) (drop l.index (g.EF.ExtensionField.coordinates l.x)) ≡ l.initial.bytes.items ++ elements_bytes (element_bytes g.F.PrimeField64.BYTES g.F.PrimeField64.number_of) (g.EF.ExtensionField.coordinates l.x)

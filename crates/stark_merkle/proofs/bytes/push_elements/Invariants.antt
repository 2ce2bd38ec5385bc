use Rattle.std.proofs.Common.{◌≡◌, ◌++◌, drop}
use Rattle.stark_merkle.specs.Bytes.{element_bytes, elements_bytes}
use Rattle.stark_merkle.proofs.bytes.push_elements.Given as goal

abbrev pub invariant-loop-x : goal.invariant-loop-x
invariant-loop-x g l =
    l.bytes.items ++ elements_bytes (element_bytes g.F.PrimeField64.BYTES g.F.PrimeField64.number_of) (drop l.x-index l.xs) ≡ l.initial.bytes.items ++ elements_bytes (element_bytes g.F.PrimeField64.BYTES g.F.PrimeField64.number_of) l.xs

use Rattle.std.proofs.Common.{◌≡◌}
use Rattle.stark_fri_prover.specs.Words.{elements_of}
use Rattle.stark_fri_prover.proofs.layers.elements_of.Given as goal

abbrev pub invariant-loop-place : goal.invariant-loop-place
invariant-loop-place g l = l.elements.items ≡ elements_of g.EF.Field.ring g.EF.ExtensionField.embed g.EF.ExtensionField.DIMENSION g.EF.ExtensionField.basis l.coordinates l.place

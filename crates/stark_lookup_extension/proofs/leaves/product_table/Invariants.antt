use Rattle.stark_lookup_extension.specs.Leaves.{product_row}
use Rattle.stark_lookup_extension.proofs.LeafSteps.{KnownSoFar}
use Rattle.stark_lookup_extension.proofs.ListSteps.{Rows}
use Rattle.stark_lookup_extension.proofs.leaves.product_table.Given as goal

abbrev pub invariant-loop-index : goal.invariant-loop-index
invariant-loop-index g l = KnownSoFar Rows (product_row g.EF.Field.ring g.EF.ExtensionField.basis g.EF.ExtensionField.coordinates) l.fn.list g.EF.ExtensionField.basis l.index l.all.items l.list

use Rattle.std.proofs.Common.{◌≡◌, ◌^◌, ℕ, List}
use Rattle.std.specs.List.{AllByRecursion}
use Rattle.stark_support.specs.Coset.{coset_vanishing}
use Rattle.stark_support.proofs.Loops.{Left}
use Rattle.stark_fri.specs.Claims.{MatrixRead, matrix_seen}
use Rattle.stark_fri.proofs.claims.matrices_are_off.Given as goal

-- The point lies off the coset.
abbrev pub point_off : (g : goal.Over) → ℕ → g.row.EF.Denot × List g.row.EF.Denot → Type 0
point_off g bits p = coset_vanishing g.EF.Field.ring g.EF.ExtensionField.embed g.D.Val.Field.inverse_of (2 ^ bits) g.D.Val.Field.GENERATOR p.0 ≡ g.EF.Field.ring.zero → ⊥

-- All of a matrix's points do.
abbrev pub off : (g : goal.Over) → ℕ → MatrixRead g.row.EF.Denot → Type 0
off g bits m = AllByRecursion (point_off g bits) m.1

abbrev pub invariant-loop-matrix : goal.invariant-loop-matrix
invariant-loop-matrix g l = Left (matrix_seen g.D.PolynomialSpace.coset_of) (off g l.bits) l.matrices l.matrix-index

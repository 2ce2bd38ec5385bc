use Rattle.stark_support.specs.Claims.{matrix_view}
use Rattle.stark_clear.specs.ClearClaims.{MatrixIsTrue}
use Rattle.stark_columns.specs.Columns.{columns_list}
use Rattle.stark_support.proofs.Loops.{BothLeft}
use Rattle.stark_clear.proofs.clear.check.round_is_true.Given as goal

abbrev pub invariant-loop-i : goal.invariant-loop-i
invariant-loop-i g l = BothLeft columns_list (matrix_view g.D.PolynomialSpace.coset_of) (MatrixIsTrue g.EF.Field.ring g.EF.ExtensionField.embed) l.matrices l.claims l.i

use Rattle.stark_support.specs.Claims.{claim_view}
use Rattle.stark_clear.specs.ClearClaims.{RoundIsTrue}
use Rattle.stark_support.proofs.Loops.{Left, Passed}
use Rattle.stark_clear.proofs.clear.check.first_wrong_value.Given as goal

abbrev pub invariant-loop-i : goal.invariant-loop-i
invariant-loop-i g l =
    Left (claim_view g.D.PolynomialSpace.coset_of) (RoundIsTrue g.EF.Field.ring g.EF.ExtensionField.embed) l.claims l.i
    × Passed (claim_view g.D.PolynomialSpace.coset_of) (RoundIsTrue g.EF.Field.ring g.EF.ExtensionField.embed) l.claims l.i

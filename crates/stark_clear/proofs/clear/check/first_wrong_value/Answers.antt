use Rattle.std.proofs.Common.{rules, sym, subst, map}
use Rattle.stark_support.specs.Claims.{claim_view, matrix_view}
use Rattle.stark_support.specs.Faults.{PlaceByPlace}
use Rattle.stark_clear.specs.ClearClaims.{MatrixIsTrue, RoundIsTrue}
use Rattle.stark_columns.specs.Columns.{columns_list}
use Rattle.stark_support.proofs.Loops.{left_step, passed_step, passed_stop}
use Rattle.stark_clear.proofs.clear.check.first_wrong_value.Goals as goal

pub returns-then-not-round_is_true : goal.returns-then-not-round_is_true
returns-then-not-round_is_true g c =
    let claim = c.index-claims-i.result in
    let not : PlaceByPlace (MatrixIsTrue g.EF.Field.ring g.EF.ExtensionField.embed) (map columns_list c.matrices.result.now) (map (matrix_view g.D.PolynomialSpace.coset_of) c.deref.result.now) → ⊥ = search rules in
    passed_stop (claim_view g.D.PolynomialSpace.coset_of) (RoundIsTrue g.EF.Field.ring g.EF.ExtensionField.embed) c.args.claims.now c.loop-i.i claim c.loop-i-test.true c.index-claims-i.is
    (λ w. not (subst (λ t. PlaceByPlace (MatrixIsTrue g.EF.Field.ring g.EF.ExtensionField.embed) t (map (matrix_view g.D.PolynomialSpace.coset_of) c.deref.result.now)) (sym c.matrices.ensures)
    (subst (λ t. PlaceByPlace (MatrixIsTrue g.EF.Field.ring g.EF.ExtensionField.embed) claim.0.now (map (matrix_view g.D.PolynomialSpace.coset_of) t)) (sym c.deref.ensures.value) w))) c.loop-i.invariant.1

pub loop-i-preserved : goal.loop-i-preserved
loop-i-preserved g c =
    let claim = c.index-claims-i.result in
    let all : PlaceByPlace (MatrixIsTrue g.EF.Field.ring g.EF.ExtensionField.embed) (map columns_list c.matrices.result.now) (map (matrix_view g.D.PolynomialSpace.coset_of) c.deref.result.now) = search rules in
    let yes : (RoundIsTrue g.EF.Field.ring g.EF.ExtensionField.embed) (claim_view g.D.PolynomialSpace.coset_of claim) =
    subst (λ t. PlaceByPlace (MatrixIsTrue g.EF.Field.ring g.EF.ExtensionField.embed) claim.0.now (map (matrix_view g.D.PolynomialSpace.coset_of) t)) c.deref.ensures.value
    (subst (λ t. PlaceByPlace (MatrixIsTrue g.EF.Field.ring g.EF.ExtensionField.embed) t (map (matrix_view g.D.PolynomialSpace.coset_of) c.deref.result.now)) c.matrices.ensures all) in (
      left_step (claim_view g.D.PolynomialSpace.coset_of) (RoundIsTrue g.EF.Field.ring g.EF.ExtensionField.embed) c.args.claims.now c.loop-i.i claim c.loop-i-test.true c.index-claims-i.is yes c.loop-i.invariant.0,
      passed_step (claim_view g.D.PolynomialSpace.coset_of) (RoundIsTrue g.EF.Field.ring g.EF.ExtensionField.embed) c.args.claims.now c.loop-i.i claim c.loop-i-test.true c.index-claims-i.is yes c.loop-i.invariant.1,
    )

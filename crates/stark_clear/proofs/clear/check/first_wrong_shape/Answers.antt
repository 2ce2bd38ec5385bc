use Rattle.std.proofs.Common.{rules, sym, subst, map}
use Rattle.stark_support.specs.Claims.{claim_view, matrix_view}
use Rattle.stark_support.specs.Faults.{PlaceByPlace}
use Rattle.stark_clear.specs.ClearClaims.{MatrixHasShape, RoundHasShape}
use Rattle.stark_columns.specs.Columns.{columns_list}
use Rattle.stark_support.proofs.Loops.{left_step, passed_step, passed_stop}
use Rattle.stark_clear.proofs.clear.check.first_wrong_shape.Goals as goal

pub returns-then-not-round_has_shape : goal.returns-then-not-round_has_shape
returns-then-not-round_has_shape g c =
    let claim = c.index-claims-i.result in
    let not : PlaceByPlace MatrixHasShape (map columns_list c.matrices.result.now) (map (matrix_view g.D.PolynomialSpace.coset_of) c.deref.result.now) → ⊥ = search rules in
    passed_stop (claim_view g.D.PolynomialSpace.coset_of) RoundHasShape c.args.claims.now c.loop-i.i claim c.loop-i-test.true c.index-claims-i.is
    (λ w. not (subst (λ t. PlaceByPlace MatrixHasShape t (map (matrix_view g.D.PolynomialSpace.coset_of) c.deref.result.now)) (sym c.matrices.ensures)
    (subst (λ t. PlaceByPlace MatrixHasShape claim.0.now (map (matrix_view g.D.PolynomialSpace.coset_of) t)) (sym c.deref.ensures.value) w))) c.loop-i.invariant.1

pub loop-i-preserved : goal.loop-i-preserved
loop-i-preserved g c =
    let claim = c.index-claims-i.result in
    let all : PlaceByPlace MatrixHasShape (map columns_list c.matrices.result.now) (map (matrix_view g.D.PolynomialSpace.coset_of) c.deref.result.now) = search rules in
    let yes : RoundHasShape (claim_view g.D.PolynomialSpace.coset_of claim) =
    subst (λ t. PlaceByPlace MatrixHasShape claim.0.now (map (matrix_view g.D.PolynomialSpace.coset_of) t)) c.deref.ensures.value
    (subst (λ t. PlaceByPlace MatrixHasShape t (map (matrix_view g.D.PolynomialSpace.coset_of) c.deref.result.now)) c.matrices.ensures all) in (
      left_step (claim_view g.D.PolynomialSpace.coset_of) RoundHasShape c.args.claims.now c.loop-i.i claim c.loop-i-test.true c.index-claims-i.is yes c.loop-i.invariant.0,
      passed_step (claim_view g.D.PolynomialSpace.coset_of) RoundHasShape c.args.claims.now c.loop-i.i claim c.loop-i-test.true c.index-claims-i.is yes c.loop-i.invariant.1,
    )

use Rattle.std.proofs.Common.{rules, map, sym, subst}
use Rattle.std.specs.List.{AllByRecursion}
use Rattle.stark_support.specs.Claims.{point_view}
use Rattle.stark_support.proofs.Loops.{shown, refuted, left_step, left_stop, left_end}
use Rattle.stark_fri.specs.Claims.{matrix_seen}
use Rattle.stark_fri.proofs.claims.matrices_are_off.Goals as goal
use Rattle.stark_fri.proofs.claims.matrices_are_off.Invariants.{off, point_off}

pub returns-then-not-points_are_off : goal.returns-then-not-points_are_off
returns-then-not-points_are_off g c =
    let matrix = c.matrix-item.result in
    let not : AllByRecursion (point_off g c.args.bits) (map point_view c.deref.result.now) → ⊥ = search rules in
    refuted (left_stop (matrix_seen g.D.PolynomialSpace.coset_of) (off g c.args.bits) c.args.matrices.now c.loop-matrix.matrix-index matrix c.loop-matrix-test.true c.matrix-item.is
    (λ w. not (subst (λ t. AllByRecursion (point_off g c.args.bits) (map point_view t)) (sym c.deref.ensures.value) w)) c.loop-matrix.invariant)

pub loop-matrix-preserved : goal.loop-matrix-preserved
loop-matrix-preserved g c =
    let matrix = c.matrix-item.result in
    let all : AllByRecursion (point_off g c.args.bits) (map point_view c.deref.result.now) = search rules in
    left_step (matrix_seen g.D.PolynomialSpace.coset_of) (off g c.args.bits) c.args.matrices.now c.loop-matrix.matrix-index matrix c.loop-matrix-test.true c.matrix-item.is
    (subst (λ t. AllByRecursion (point_off g c.args.bits) (map point_view t)) c.deref.ensures.value all) c.loop-matrix.invariant

pub returns : goal.returns
returns g c = shown (left_end (matrix_seen g.D.PolynomialSpace.coset_of) (off g c.args.bits) c.args.matrices.now c.loop-matrix.matrix-index c.loop-matrix-test.false c.loop-matrix.invariant)

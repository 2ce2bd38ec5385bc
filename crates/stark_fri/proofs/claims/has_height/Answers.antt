use Rattle.std.proofs.Common.{◌≡◌, ◌∙◌, sym}
use Rattle.stark_support.proofs.Loops.{shown, refuted, left_step, left_stop, left_end}
use Rattle.stark_fri.specs.Claims.{matrix_seen}
use Rattle.stark_fri.proofs.claims.has_height.Goals as goal

pub returns-then-log_size_of-log_height : goal.returns-then-log_size_of-log_height
returns-then-log_size_of-log_height g c =
    refuted (left_stop (matrix_seen g.D.PolynomialSpace.coset_of) (λ m. m.0 ≡ c.args.log_height) c.args.matrices.now c.loop-matrix.matrix-index c.matrix-item.result c.loop-matrix-test.true c.matrix-item.is
    (λ same. c.if-log_size_of-log_height.true (c.log_size_of.ensures ∙ same)) c.loop-matrix.invariant)

pub loop-matrix-preserved : goal.loop-matrix-preserved
loop-matrix-preserved g c =
    left_step (matrix_seen g.D.PolynomialSpace.coset_of) (λ m. m.0 ≡ c.args.log_height) c.args.matrices.now c.loop-matrix.matrix-index c.matrix-item.result c.loop-matrix-test.true c.matrix-item.is
    (sym c.log_size_of.ensures ∙ c.if-log_size_of-log_height.false) c.loop-matrix.invariant

pub returns : goal.returns
returns g c = shown (left_end (matrix_seen g.D.PolynomialSpace.coset_of) (λ m. m.0 ≡ c.args.log_height) c.args.matrices.now c.loop-matrix.matrix-index c.loop-matrix-test.false c.loop-matrix.invariant)

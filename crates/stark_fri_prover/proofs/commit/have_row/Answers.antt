use Rattle.std.proofs.Common.{◌∙◌, sym, subst}
use Rattle.std.specs.List.{AllByRecursion}
use Rattle.std.proofs.lemmas.Bool.{false≢true}
use Rattle.std.proofs.lemmas.List.{map-id}
use Rattle.stark_support.proofs.Loops.{left_end, left_step, left_stop, refuted, shown}
use Rattle.stark_fri_prover.specs.Commit.{HasRow}
use Rattle.stark_fri_prover.proofs.commit.have_row.Goals as goal

pub returns-then-not-has_row : goal.returns-then-not-has_row
returns-then-not-has_row g c =
    refuted (λ all. left_stop (λ m. m) (HasRow c.args.place) c.args.extended.now c.loop-matrix.matrix-index c.matrix-item.result c.loop-matrix-test.true c.matrix-item.is
    (λ has. false≢true (sym c.if-not-has_row.true ∙ c.has_row.ensures.1 has)) c.loop-matrix.invariant (subst (AllByRecursion (HasRow c.args.place)) (sym (map-id c.args.extended.now)) all))

pub loop-matrix-preserved : goal.loop-matrix-preserved
loop-matrix-preserved g c =
    left_step (λ m. m) (HasRow c.args.place) c.args.extended.now c.loop-matrix.matrix-index c.matrix-item.result c.loop-matrix-test.true c.matrix-item.is
    (c.has_row.ensures.0 c.if-not-has_row.false) c.loop-matrix.invariant

pub returns : goal.returns
returns g c =
    shown (subst (AllByRecursion (HasRow c.args.place)) (map-id c.args.extended.now)
    (left_end (λ m. m) (HasRow c.args.place) c.args.extended.now c.loop-matrix.matrix-index c.loop-matrix-test.false c.loop-matrix.invariant))

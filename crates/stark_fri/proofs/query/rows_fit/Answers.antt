use Rattle.std.proofs.Common.{rules, arith, ◌≡◌, ◌∙◌, sym, subst, map, length}
use Rattle.std.specs.List.{AllByRecursion}
use Rattle.stark_merkle.specs.Tree.{items_of}
use Rattle.stark_support.specs.Claims.{point_view}
use Rattle.stark_support.proofs.Loops.{shown, refuted, both_step, both_stop, both_end, same_lengths}
use Rattle.stark_fri.specs.Claims.{matrix_seen}
use Rattle.stark_fri.specs.Query.{RowFits}
use Rattle.stark_fri.proofs.query.rows_fit.Goals as goal

pub returns-then-rows-matrices : goal.returns-then-rows-matrices
returns-then-rows-matrices g c =
    refuted (λ w. c.if-rows-matrices.true (same_lengths (matrix_seen g.D.PolynomialSpace.coset_of) items_of RowFits c.args.matrices.now c.args.rows.now w))

pub returns-then-not-points_have_count : goal.returns-then-not-points_have_count
returns-then-not-points_have_count g c =
    let seen = matrix_seen g.D.PolynomialSpace.coset_of in
    let matrix = c.index-matrices-m.result in
    let row = c.index-rows-m.result in
    let count : c.len.result ≡ length row.items = c.len.ensures ∙ row.ok.0 in
    let not : AllByRecursion (λ p. length p.1 ≡ c.len.result) (map point_view c.deref.result.now) → ⊥ = search rules in
    let no : RowFits (seen matrix) (items_of row) → ⊥ =
    λ w. not (subst (λ t. AllByRecursion (λ p. length p.1 ≡ c.len.result) (map point_view t)) (sym c.deref.ensures.value)
    (subst (λ n. AllByRecursion (λ p. length p.1 ≡ n) (map point_view matrix.1.items)) (sym count) w)) in
    let turn = c.loop-m-test.true in
    let n : length c.args.rows.now ≡ length c.args.matrices.now = search rules in
    refuted (both_stop seen items_of RowFits c.args.matrices.now c.args.rows.now c.loop-m.m matrix row turn (omega (arith, turn, n)) c.index-matrices-m.is c.index-rows-m.is no c.loop-m.invariant)

pub loop-m-preserved : goal.loop-m-preserved
loop-m-preserved g c =
    let seen = matrix_seen g.D.PolynomialSpace.coset_of in
    let matrix = c.index-matrices-m.result in
    let row = c.index-rows-m.result in
    let count : c.len.result ≡ length row.items = c.len.ensures ∙ row.ok.0 in
    let all : AllByRecursion (λ p. length p.1 ≡ c.len.result) (map point_view c.deref.result.now) = search rules in
    let yes : RowFits (seen matrix) (items_of row) =
    subst (λ n. AllByRecursion (λ p. length p.1 ≡ n) (map point_view matrix.1.items)) count
    (subst (λ t. AllByRecursion (λ p. length p.1 ≡ c.len.result) (map point_view t)) c.deref.ensures.value all) in
    let turn = c.loop-m-test.true in
    let n : length c.args.rows.now ≡ length c.args.matrices.now = search rules in
    both_step seen items_of RowFits c.args.matrices.now c.args.rows.now c.loop-m.m matrix row turn (omega (arith, turn, n)) c.index-matrices-m.is c.index-rows-m.is yes c.loop-m.invariant

pub returns : goal.returns
returns g c =
    let n : length c.args.rows.now ≡ length c.args.matrices.now = search rules in
    shown (both_end (matrix_seen g.D.PolynomialSpace.coset_of) items_of RowFits c.args.matrices.now c.args.rows.now c.loop-m.m c.loop-m-test.false n c.loop-m.invariant)

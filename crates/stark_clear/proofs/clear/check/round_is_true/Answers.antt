use Rattle.std.proofs.Common.{rules, arith, ◌≡◌, sym, subst, map, length}
use Rattle.std.specs.List.{AllByRecursion}
use Rattle.stark_support.specs.Claims.{matrix_view, point_view}
use Rattle.stark_clear.specs.ClearClaims.{HasValues, MatrixIsTrue}
use Rattle.stark_columns.specs.Columns.{column_list, columns_list}
use Rattle.stark_support.proofs.Loops.{shown, refuted, both_step, both_stop, both_end, same_lengths}
use Rattle.stark_clear.proofs.clear.check.round_is_true.Goals as goal

pub returns-then-claims-matrices : goal.returns-then-claims-matrices
returns-then-claims-matrices g c =
    refuted (λ w. c.if-claims-matrices.true (same_lengths columns_list (matrix_view g.D.PolynomialSpace.coset_of) (MatrixIsTrue g.EF.Field.ring g.EF.ExtensionField.embed) c.args.matrices.now c.args.claims.now w))

pub returns-then-not-matrix_is_true : goal.returns-then-not-matrix_is_true
returns-then-not-matrix_is_true g c =
    let claim = c.index-claims-i.result in
    let matrix = c.index-matrices-i.result in
    let values = HasValues g.EF.Field.ring g.EF.ExtensionField.embed in
    let not : AllByRecursion (HasValues g.EF.Field.ring g.EF.ExtensionField.embed (map column_list c.deref.result.now)) (map point_view c.deref-in-loop-i.result.now) → ⊥ = search rules in
    let no : MatrixIsTrue g.EF.Field.ring g.EF.ExtensionField.embed (columns_list matrix) (matrix_view g.D.PolynomialSpace.coset_of claim) → ⊥ =
    λ w. not (subst (λ t. AllByRecursion (values (map column_list c.deref.result.now)) (map point_view t)) (sym c.deref-in-loop-i.ensures.value)
    (subst (λ t. AllByRecursion (values (map column_list t)) (map point_view claim.1.items)) (sym c.deref.ensures.value) w)) in
    let n : length c.args.claims.now ≡ length c.args.matrices.now = search rules in
    refuted (both_stop columns_list (matrix_view g.D.PolynomialSpace.coset_of) (MatrixIsTrue g.EF.Field.ring g.EF.ExtensionField.embed) c.args.matrices.now c.args.claims.now c.loop-i.i matrix claim c.loop-i-test.true (omega arith) c.index-matrices-i.is c.index-claims-i.is no c.loop-i.invariant)

pub loop-i-preserved : goal.loop-i-preserved
loop-i-preserved g c =
    let claim = c.index-claims-i.result in
    let matrix = c.index-matrices-i.result in
    let values = HasValues g.EF.Field.ring g.EF.ExtensionField.embed in
    let all : AllByRecursion (HasValues g.EF.Field.ring g.EF.ExtensionField.embed (map column_list c.deref.result.now)) (map point_view c.deref-in-loop-i.result.now) = search rules in
    let yes : MatrixIsTrue g.EF.Field.ring g.EF.ExtensionField.embed (columns_list matrix) (matrix_view g.D.PolynomialSpace.coset_of claim) =
    subst (λ t. AllByRecursion (values (map column_list t)) (map point_view claim.1.items)) c.deref.ensures.value
    (subst (λ t. AllByRecursion (values (map column_list c.deref.result.now)) (map point_view t)) c.deref-in-loop-i.ensures.value all) in
    let n : length c.args.claims.now ≡ length c.args.matrices.now = search rules in
    both_step columns_list (matrix_view g.D.PolynomialSpace.coset_of) (MatrixIsTrue g.EF.Field.ring g.EF.ExtensionField.embed) c.args.matrices.now c.args.claims.now c.loop-i.i matrix claim c.loop-i-test.true (omega arith) c.index-matrices-i.is c.index-claims-i.is yes c.loop-i.invariant

pub returns : goal.returns
returns g c =
    let n : length c.args.claims.now ≡ length c.args.matrices.now = search rules in
    shown (both_end columns_list (matrix_view g.D.PolynomialSpace.coset_of) (MatrixIsTrue g.EF.Field.ring g.EF.ExtensionField.embed) c.args.matrices.now c.args.claims.now c.loop-i.i c.loop-i-test.false n c.loop-i.invariant)

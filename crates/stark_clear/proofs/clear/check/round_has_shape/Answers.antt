use Rattle.std.proofs.Common.{rules, arith, ◌≡◌, ◌∙◌, sym, subst, map, length}
use Rattle.std.specs.List.{AllByRecursion}
use Rattle.std.proofs.lemmas.List.{length-map}
use Rattle.stark_support.specs.Claims.{matrix_view, point_view}
use Rattle.stark_support.specs.Coset.{coset_size}
use Rattle.stark_clear.specs.ClearClaims.{MatrixHasShape}
use Rattle.stark_columns.specs.Columns.{column_list, columns_list}
use Rattle.stark_support.proofs.Loops.{shown, refuted, both_step, both_stop, both_end, same_lengths}
use Rattle.stark_clear.proofs.clear.check.round_has_shape.Goals as goal

pub returns-then-claims-matrices : goal.returns-then-claims-matrices
returns-then-claims-matrices g c = refuted (λ w. c.if-claims-matrices.true (same_lengths columns_list (matrix_view g.D.PolynomialSpace.coset_of) MatrixHasShape c.args.matrices.now c.args.claims.now w))

pub returns-then-not-columns_have_size : goal.returns-then-not-columns_have_size
returns-then-not-columns_have_size g c =
    let claim = c.index-claims-i.result in
    let matrix = c.index-matrices-i.result in
    let size : c.size.result ≡ coset_size (g.D.PolynomialSpace.coset_of claim.0) = c.size.ensures ∙ g.met.D.PolynomialSpace.size_is claim.0 in
    let not : AllByRecursion (λ column. length column ≡ c.size.result) (map column_list c.deref.result.now) → ⊥ = search rules in
    let no : MatrixHasShape (columns_list matrix) (matrix_view g.D.PolynomialSpace.coset_of claim) → ⊥ =
    λ w. not (subst (λ t. AllByRecursion (λ column. length column ≡ c.size.result) (map column_list t)) (sym c.deref.ensures.value) (subst (λ n. AllByRecursion (λ column. length column ≡ n) (map column_list matrix.items)) (sym size) w.0)) in
    let n : length c.args.claims.now ≡ length c.args.matrices.now = search rules in
    refuted (both_stop columns_list (matrix_view g.D.PolynomialSpace.coset_of) MatrixHasShape c.args.matrices.now c.args.claims.now c.loop-i.i matrix claim c.loop-i-test.true (omega arith) c.index-matrices-i.is c.index-claims-i.is no c.loop-i.invariant)

pub returns-then-not-points_have_count : goal.returns-then-not-points_have_count
returns-then-not-points_have_count g c =
    let claim = c.index-claims-i.result in
    let matrix = c.index-matrices-i.result in
    let count : c.len.result ≡ length (columns_list matrix) = c.len.ensures ∙ matrix.ok.0 ∙ sym (length-map matrix.items column_list) in
    let not : AllByRecursion (λ p. length p.1 ≡ c.len.result) (map point_view c.deref-in-loop-i.result.now) → ⊥ = search rules in
    let no : MatrixHasShape (columns_list matrix) (matrix_view g.D.PolynomialSpace.coset_of claim) → ⊥ =
    λ w. not (subst (λ t. AllByRecursion (λ p. length p.1 ≡ c.len.result) (map point_view t)) (sym c.deref-in-loop-i.ensures.value) (subst (λ n. AllByRecursion (λ p. length p.1 ≡ n) (map point_view claim.1.items)) (sym count) w.1)) in
    let n : length c.args.claims.now ≡ length c.args.matrices.now = search rules in
    refuted (both_stop columns_list (matrix_view g.D.PolynomialSpace.coset_of) MatrixHasShape c.args.matrices.now c.args.claims.now c.loop-i.i matrix claim c.loop-i-test.true (omega arith) c.index-matrices-i.is c.index-claims-i.is no c.loop-i.invariant)

pub loop-i-preserved : goal.loop-i-preserved
loop-i-preserved g c =
    let claim = c.index-claims-i.result in
    let matrix = c.index-matrices-i.result in
    let size : c.size.result ≡ coset_size (g.D.PolynomialSpace.coset_of claim.0) = c.size.ensures ∙ g.met.D.PolynomialSpace.size_is claim.0 in
    let count : c.len.result ≡ length (columns_list matrix) = c.len.ensures ∙ matrix.ok.0 ∙ sym (length-map matrix.items column_list) in
    let sized : AllByRecursion (λ column. length column ≡ c.size.result) (map column_list c.deref.result.now) = search rules in
    let counted : AllByRecursion (λ p. length p.1 ≡ c.len.result) (map point_view c.deref-in-loop-i.result.now) = search rules in
    let yes : MatrixHasShape (columns_list matrix) (matrix_view g.D.PolynomialSpace.coset_of claim) = (
      subst (λ n. AllByRecursion (λ column. length column ≡ n) (map column_list matrix.items)) size (subst (λ t. AllByRecursion (λ column. length column ≡ c.size.result) (map column_list t)) c.deref.ensures.value sized),
      subst (λ n. AllByRecursion (λ p. length p.1 ≡ n) (map point_view claim.1.items)) count (subst (λ t. AllByRecursion (λ p. length p.1 ≡ c.len.result) (map point_view t)) c.deref-in-loop-i.ensures.value counted),
    ) in
    let n : length c.args.claims.now ≡ length c.args.matrices.now = search rules in
    both_step columns_list (matrix_view g.D.PolynomialSpace.coset_of) MatrixHasShape c.args.matrices.now c.args.claims.now c.loop-i.i matrix claim c.loop-i-test.true (omega arith) c.index-matrices-i.is c.index-claims-i.is yes c.loop-i.invariant

pub returns : goal.returns
returns g c =
    let n : length c.args.claims.now ≡ length c.args.matrices.now = search rules in
    shown (both_end columns_list (matrix_view g.D.PolynomialSpace.coset_of) MatrixHasShape c.args.matrices.now c.args.claims.now c.loop-i.i c.loop-i-test.false n c.loop-i.invariant)

use Rattle.std.proofs.Common.{◌∙◌, ◌++◌, ◌<◌, ap, arith, length, map}
use Rattle.std.proofs.lemmas.List.{length-map}
use Rattle.std.specs.List.{flat_map, zip}
use Rattle.stark_merkle.specs.Tree.{items_of}
use Rattle.stark_support.specs.Claims.{point_view}
use Rattle.stark_fri.specs.Claims.{matrix_seen}
use Rattle.stark_fri.specs.Query.{seen_at_point, seen_in_matrix}
use Rattle.stark_fri.proofs.ListSteps.{all_pieces, one_more_piece, zip_ended, zip_place, zip_within}
use Rattle.stark_fri.proofs.WalkSteps.{mapped_place}
use Rattle.stark_fri.proofs.seen.push_round.Invariants.{fields_of}
use Rattle.stark_fri.proofs.seen.push_round.Goals as goal

pub loop-m-preserved : goal.loop-m-preserved
loop-m-preserved g c =
    let seen = matrix_seen g.D.PolynomialSpace.coset_of in
    let matrices = c.args.matrices.now in
    let rows = c.args.rows.now in
    let i = c.loop-m.m in
    let matrix = c.index-matrices-m.result in
    let row = c.index-rows-m.result in
    let turn = c.loop-m-test.true in
    let end = c.min-m-end.ensures in
    let in_matrices : i < length matrices = omega (arith, turn, end) in
    let in_rows : i < length rows = omega (arith, turn, end) in
    let as_many = length-map matrices seen in
    let as_many_rows = length-map rows items_of in
    let here : i < length (map seen matrices) = omega (arith, in_matrices, as_many) in
    let there : i < length (map items_of rows) = omega (arith, in_rows, as_many_rows) in
    one_more_piece (seen_in_matrix (fields_of g)) (zip (map seen matrices) (map items_of rows)) i (seen matrix, items_of row) c.loop-m.seen.items c.push_matrix.new.seen.items _
    (zip_within (map seen matrices) (map items_of rows) i (omega (arith, here, there)))
    (zip_place (map seen matrices) (map items_of rows) i (seen matrix) (items_of row) here there
    (mapped_place seen matrices i matrix in_matrices c.index-matrices-m.is) (mapped_place items_of rows i row in_rows c.index-rows-m.is))
    (c.in_ok-push_matrix.ensures
    ∙ ap (λ t. c.loop-m.seen.items ++ flat_map (seen_at_point (fields_of g) t) (map point_view c.deref-in-loop-m.result.now)) c.deref.ensures.value
    ∙ ap (λ t. c.loop-m.seen.items ++ flat_map (seen_at_point (fields_of g) row.items) (map point_view t)) c.deref-in-loop-m.ensures.value)
    c.loop-m.invariant

pub returns : goal.returns
returns g c =
    let seen = matrix_seen g.D.PolynomialSpace.coset_of in
    let matrices = c.args.matrices.now in
    let rows = c.args.rows.now in
    let ended = c.loop-m-test.false in
    let end = c.min-m-end.ensures in
    let as_many = length-map matrices seen in
    let as_many_rows = length-map rows items_of in
    all_pieces (seen_in_matrix (fields_of g)) (zip (map seen matrices) (map items_of rows)) c.loop-m.m c.loop-m.seen.items _
    (zip_ended (map seen matrices) (map items_of rows) c.loop-m.m (omega (arith, ended, end, as_many, as_many_rows))) c.loop-m.invariant

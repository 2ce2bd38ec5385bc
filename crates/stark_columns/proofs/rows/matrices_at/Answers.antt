use Rattle.std.proofs.Common.{arith, ◌∙◌, [], ◌∷◌, ap, map}
use Rattle.std.proofs.lemmas.List.{map-append}
use Rattle.stark_support.specs.Scheme.{row_at}
use Rattle.stark_columns.specs.Columns.{column_list, columns_list}
use Rattle.stark_columns.specs.OpenedFacts.{one_more_matrix, all_matrices}
use Rattle.stark_columns.proofs.rows.matrices_at.Goals as goal

pub loop-i-preserved : goal.loop-i-preserved
loop-i-preserved g c =
    one_more_matrix g.EF.Field.ring g.EF.ExtensionField.embed columns_list (λ p. p.items) c.args.matrices.now c.args.points.now c.loop-i.i c.index-matrices-i.result c.index-points-i.result
    (map (λ m. map (λ row. row.items) m.items) c.loop-i.opened.items) (map (λ m. map (λ row. row.items) m.items) c.push.new.self.items) (map (λ row. row.items) c.in_ok-rows.rows.items) _
    (omega (arith, c.min-i-end.ensures)) (omega (arith, c.min-i-end.ensures)) c.index-matrices-i.is c.index-points-i.is
    (c.in_ok-rows.ensures ∙ ap (λ t. map (row_at g.EF.Field.ring g.EF.ExtensionField.embed (map column_list t)) c.deref-in-loop-i.result.now) c.deref.ensures.value
    ∙ ap (map (row_at g.EF.Field.ring g.EF.ExtensionField.embed (columns_list c.index-matrices-i.result))) c.deref-in-loop-i.ensures.value)
    (ap (map (λ m. map (λ row. row.items) m.items)) c.in_ok-push.ensures.items ∙ map-append (λ m. map (λ row. row.items) m.items) c.loop-i.opened.items (c.in_ok-rows.rows ∷ []))
    c.loop-i.invariant

pub returns : goal.returns
returns g c =
    all_matrices g.EF.Field.ring g.EF.ExtensionField.embed columns_list (λ p. p.items) c.args.matrices.now c.args.points.now c.loop-i.i _ _ (omega (arith, c.min-i-end.ensures)) c.loop-i.invariant

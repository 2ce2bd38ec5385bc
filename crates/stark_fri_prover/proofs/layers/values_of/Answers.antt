use Rattle.std.proofs.Common.{◌≡◌, ◌∙◌, ◌∷◌, ◌++◌, ◌*◌, List, [], Some, ap, length, map, sym}
use Rattle.std.specs.List.{slice_get}
use Rattle.stark_columns.specs.Columns.{columns_list}
use Rattle.stark_support.specs.Coset.{TwoAdicCoset, coset_from}
use Rattle.std.specs.declared.vec.Vec.{Vec}
use Rattle.stark_fri_prover.specs.Words.{coordinate_columns, elements_of}
use Rattle.stark_fri_prover.proofs.WordSteps.{coordinates_count, word_of_rows}
use Rattle.stark_fri_prover.proofs.layers.values_of.Goals as goal

-- The one matrix, in memory and as a list.
only_matrix : {F A B : Type 0} (all before matrices : List (Vec (Vec F A) B)) (columns : Vec (Vec F A) B) (list : List (List F)) → all ≡ matrices → matrices ≡ before ++ columns ∷ [] → before ≡ [] → columns_list columns ≡ list
    → slice_get (map columns_list all) 0 ≡ Some list
only_matrix all before matrices columns list is pushed none same =
    ap (λ t. slice_get (map columns_list t) 0) (is ∙ pushed ∙ ap (λ t. t ++ columns ∷ []) none) ∙ ap Some same

pub elements_of-requires : goal.elements_of-requires
elements_of-requires g c =
    let coset : TwoAdicCoset g.row.F.Denot = coset_from c.args.domain.now.shift c.args.domain.now.log_size in
    let columns = coordinate_columns g.EF.ExtensionField.DIMENSION g.EF.ExtensionField.coordinates g.F.Field.ring.zero c.args.polynomial.now in
    let has = c.in_ok-rows.ensures columns (only_matrix c.deref.result.now c.new-matrices.result.items _ c.in_ok-columns.columns columns c.deref.ensures.value c.in_ok-push.ensures.items c.new-matrices.ensures.items c.in_ok-columns.ensures) in
    ap length c.deref-2.ensures.value
    ∙ coordinates_count g.met.EF.Field.field_laws.of_ring g.met.EF.ExtensionField.embeds g.met.EF.ExtensionField.is_basis g.F.TwoAdicField.root coset c.args.polynomial.now c.in_ok-rows.rows.values.items c.in_ok-rows.rows.width has
    ∙ ap (λ n. n * g.EF.ExtensionField.DIMENSION) (sym c.size.ensures)

pub returns : goal.returns
returns g c =
    let coset : TwoAdicCoset g.row.F.Denot = coset_from c.args.domain.now.shift c.args.domain.now.log_size in
    let columns = coordinate_columns g.EF.ExtensionField.DIMENSION g.EF.ExtensionField.coordinates g.F.Field.ring.zero c.args.polynomial.now in
    let has = c.in_ok-rows.ensures columns (only_matrix c.deref.result.now c.new-matrices.result.items _ c.in_ok-columns.columns columns c.deref.ensures.value c.in_ok-push.ensures.items c.new-matrices.ensures.items c.in_ok-columns.ensures) in
    word_of_rows g.met.EF.Field.field_laws.of_ring g.met.EF.ExtensionField.embeds g.met.EF.ExtensionField.is_basis g.F.TwoAdicField.root coset c.args.polynomial.now c.in_ok-rows.rows.values.items c.in_ok-rows.rows.width has c.in_ok-word.word.items
    (c.in_ok-word.ensures
    ∙ ap (λ t. elements_of g.EF.Field.ring g.EF.ExtensionField.embed g.EF.ExtensionField.DIMENSION g.EF.ExtensionField.basis t c.size.result) c.deref-2.ensures.value
    ∙ ap (elements_of g.EF.Field.ring g.EF.ExtensionField.embed g.EF.ExtensionField.DIMENSION g.EF.ExtensionField.basis c.in_ok-rows.rows.values.items) c.size.ensures)

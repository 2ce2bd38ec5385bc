use Rattle.std.proofs.Common.{◌≡◌, ◌∙◌, Err, IfSome, ap, map, subst, sym}
use Rattle.serde_json.specs.View.{view}
use Rattle.stark_json.specs.Apart.{lists_of, rows_apart}
use Rattle.stark_tree_air.specs.TreeApart.{lists_apart}
use Rattle.stark_tree_air.specs.TreeJson.{Decodes, tree_fault}
use Rattle.stark_tree_air.proofs.ApartSteps.{rows_found, rows_missing}
use Rattle.stark_tree_air.proofs.json.rows_from_json.Goals as goal

pub returns-in-Ok : goal.returns-in-Ok
returns-in-Ok g c =
    let element = g.F.JsonCodec.reading in
    let d = view c.args.value.now in
    let rows = lists_of c.in-Some.rows in
    subst (Decodes (λ v. map (λ list. list.items) v.items) c.given_rows.result)
    (sym (rows_found element rows d _ c.in-Ok.ensures) ∙ ap (λ obtained. lists_apart element (rows_apart obtained) d) (sym c.in-Some.is))
    c.given_rows.ensures

pub returns-in-Err : goal.returns-in-Err
returns-in-Err g c =
    let element = g.F.JsonCodec.reading in
    let d = view c.args.value.now in
    let fault = tree_fault c.in-Err.fault in
    subst (λ obtained. IfSome fault (λ f. lists_apart element (rows_apart obtained) d ≡ Err f)) (sym c.in-Some.is) (rows_missing element (lists_of c.in-Some.rows) d fault c.in-Err.ensures)

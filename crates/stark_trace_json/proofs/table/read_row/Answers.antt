use Rattle.std.proofs.Common.{◌++◌, ◌∷◌, [], refl, sym, ap, ◌∙◌, subst, append-nil, append_assoc}
use Rattle.stark_trace_json.specs.Scanned.{AreElements, HasElement, HasRow, IsRow, ahead}
use Rattle.stark_trace_json.proofs.Tables.{element_behind, some_holds}
use Rattle.stark_trace_json.proofs.table.read_row.Goals as goal

pub loop-init : goal.loop-init
unfolding AreElements
loop-init g c = ([], sym (append-nil _), refl)

pub returns-in-Some-close : goal.returns-in-Some-close
unfolding HasRow IsRow
returns-in-Some-close g c =
    let row = c.loop.invariant.0 in (
      row,
      c.loop.invariant.1,
      (ahead c.in-Some.items, c.in-Some.ensures, subst (AreElements g.F.JsonCodec.reading row (ahead c.in-Some.items)) c.in-Some-close.ensures c.loop.invariant.2),
    )

pub loop-preserved : goal.loop-preserved
unfolding HasElement
loop-preserved g c =
    let row = c.loop.invariant.0 in
    let old = c.loop.values.items in
    let read =
    some_holds (λ rest. HasElement g.F.JsonCodec.reading old c.read_element.new.values.items (ahead c.loop.items) (ahead rest)) c.in_ok-rest.field-0 c.in-Some-2.rest c.in_ok-rest.ensures c.in-Some-2.is in
    let f = read.0 in (
      row ++ f ∷ [],
      read.1 ∙ ap (λ xs. xs ++ f ∷ []) c.loop.invariant.1 ∙ append_assoc c.args.values.now.items row (f ∷ []),
      element_behind g.F.JsonCodec.reading row f (ahead c.in-Some.items) (ahead c.loop.items) (ahead c.in-Some-2.rest) c.loop.invariant.2 read.2,
    )

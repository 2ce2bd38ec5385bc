use Rattle.std.proofs.Common.{◌∙◌, Some, ap, arith, map, refl, sym}
use Rattle.std.proofs.lemmas.List.{length-map, take_all}
use Rattle.serde_json.specs.View.{items_of, view}
use Rattle.stark_support.specs.Json.{each_at}
use Rattle.stark_trace_json.proofs.Items.{each_more, view_at}
use Rattle.stark_trace_json.proofs.tree.elements_of.Goals as goal

pub loop-column-init : goal.loop-column-init
loop-column-init g c = ap Some (sym c.new-elements.ensures.items)

pub loop-column-preserved : goal.loop-column-preserved
loop-column-preserved g c =
    each_more g.F.JsonCodec.reading c.args.values.now c.loop-column.column c.index-values-column.result c.loop-column.elements.items c.in-Ok.element c.loop-column-test.true c.index-values-column.is c.loop-column.invariant c.in-Ok.ensures
    ∙ ap Some (sym c.in_ok-push-in-Ok.ensures.items)

pub returns : goal.returns
returns g c =
    sym (ap (λ ds. each_at g.F.JsonCodec.reading (items_of ds)) (take_all c.loop-column.column (map view c.args.values.now) (omega (arith, length-map c.args.values.now view)))) ∙ c.loop-column.invariant

pub returns-in-Err-Invalid : goal.returns-in-Err-Invalid
returns-in-Err-Invalid g c = (
  refl,
  record {
    before = c.loop-column.elements.items;
    here = view c.index-values-column.result;
    read = c.loop-column.invariant;
    stands = view_at c.args.values.now c.loop-column.column c.index-values-column.result c.loop-column-test.true c.index-values-column.is;
    fault = (sym c.in_ok-clone-in-Err-Invalid.ensures.cases, rw c.in-Err-Invalid.field-0-is at c.in-Err-Invalid.ensures);
  },
)

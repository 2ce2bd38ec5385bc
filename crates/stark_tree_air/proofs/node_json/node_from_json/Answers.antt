use Rattle.std.proofs.Common.{◌≡◌, ◌∙◌, ap, Some, arith, option_map, sym}
use Rattle.serde_json.specs.Find.{as_array}
use Rattle.serde_json.specs.View.{items_view, view}
use Rattle.stark_support.specs.Json.{◌>>=◌}
use Rattle.stark_tree_air.specs.NodeJson.{node_at}
use Rattle.stark_tree_air.proofs.JsonSteps.{too_many}
use Rattle.stark_tree_air.proofs.node_json.node_from_json.Goals as goal

pub returns-in_default-2 : goal.returns-in_default-2
returns-in_default-2 c =
    let vs = c.as_slice.result.now in
    let obtained : as_array (view c.args.value.now) ≡ Some (items_view c.in_ok-items.items.now.items) = sym c.as_array.ensures ∙ ap (λ o. option_map (λ v. items_view v.now.items) o) c.in_ok-items.was in
    let same : items_view c.in_ok-items.items.now.items ≡ items_view vs = sym (ap items_view c.as_slice.ensures.value) in
    sym (ap (λ o. o >>= node_at) obtained ∙ ap node_at same ∙ too_many vs (omega arith))

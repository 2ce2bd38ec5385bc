use Rattle.std.proofs.Common.{◌≡◌, ◌∙◌, IfOk, ap, length, string_bytes, subst, sym}
use Rattle.std.specs.List.{slice_get}
use Rattle.stark_tree_air.specs.FaultFacts.{all_fit}
use Rattle.stark_tree_air.specs.Faults.{tree_layout}
use Rattle.stark_tree_air.specs.TreeJson.{list_view}
use Rattle.stark_show.specs.Shown.{equation_line, line_if_any}
use Rattle.stark_show.proofs.Fitting.{nodes_name, place_within}
use Rattle.stark_show.proofs.text.equation.Goals as goal

pub equation_of-requires-clause-nodes : goal.equation_of-requires-clause-nodes
equation_of-requires-clause-nodes g c =
    let air = c.args.air.now in
    let ns = air.list.nodes.items in
    nodes_name (tree_layout air.declaration.columns ns) (length air.list.constants.items) 0 ns (all_fit air.declaration.columns air.list.constants.items ns air.list.constraints.items air.without_fault).0

pub equation_of-requires-clause-place : goal.equation_of-requires-clause-place
equation_of-requires-clause-place g c =
    let air = c.args.air.now in
    let cs = air.list.constraints.items in
    place_within (length air.list.nodes.items) cs c.args.number c.in-Some.constraint (all_fit air.declaration.columns air.list.constants.items air.list.nodes.items cs air.without_fault).1
    (sym (c.constraint_at.ensures ∙ ap (λ xs. slice_get xs c.args.number) c.deref.ensures.value) ∙ c.in-Some.is)

pub returns-in-Some : goal.returns-in-Some
unfolding equation_line
returns-in-Some g c =
    subst (λ o. IfOk c.equation_of.result (λ line. string_bytes line ≡ line_if_any g.F.PrimeField64.number_of (list_view c.args.air.now.list) c.args.number o))
    (sym c.in-Some.is ∙ c.constraint_at.ensures ∙ ap (λ xs. slice_get xs c.args.number) c.deref.ensures.value) c.equation_of.ensures

pub returns-in-None : goal.returns-in-None
unfolding equation_line
returns-in-None g c =
    subst (λ o. string_bytes c.new.result ≡ line_if_any g.F.PrimeField64.number_of (list_view c.args.air.now.list) c.args.number o)
    (sym c.in-None.is ∙ c.constraint_at.ensures ∙ ap (λ xs. slice_get xs c.args.number) c.deref.ensures.value) c.new.ensures.bytes

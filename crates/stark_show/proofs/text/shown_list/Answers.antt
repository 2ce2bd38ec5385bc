use Rattle.std.proofs.Common.{◌≡◌, ◌∙◌, [], ap, arith, length, map, sym, subst}
use Rattle.stark_symbolic.specs.Degree.{degree}
use Rattle.stark_tree_air.specs.Needed.{NodesBelow}
use Rattle.stark_tree_air.specs.Nodes.{nodes_trees}
use Rattle.stark_show.specs.Expressions.{phrase_view}
use Rattle.stark_show.specs.NodeDegrees.{degrees_after}
use Rattle.stark_show.specs.Shown.{constraints_text}
use Rattle.stark_show.specs.ShownNodes.{shown_nodes}
use Rattle.stark_show.proofs.DegreeLaw.{degrees_are}
use Rattle.stark_show.proofs.Fitting.{nodes_below}
use Rattle.stark_show.proofs.Passes.{as_many_shown, degrees_length, fit_in, same_lines}
use Rattle.stark_show.proofs.text.shown_list.Goals as goal

pub node_degrees-requires : goal.node_degrees-requires
node_degrees-requires g c = subst (λ ns. NodesBelow 0 ns) (sym c.deref-3.ensures.value) (nodes_below _ 0 _ c.requires.nodes)

pub constraint_lines-requires-clause-phrases : goal.constraint_lines-requires-clause-phrases
constraint_lines-requires-clause-phrases g c =
    let many = as_many_shown g.F.PrimeField64.number_of _ _ c.args.list.now.nodes.items phrase_view c.deref-4.result.now _ c.deref-4.ensures.value c.in_ok-shown.ensures.phrases c.deref-2.ensures.value in
    fit_in _ _ _ _ many c.deref-6.ensures.value c.requires.constraints

pub constraint_lines-requires-clause-degrees : goal.constraint_lines-requires-clause-degrees
constraint_lines-requires-clause-degrees g c =
    let ns = c.deref-3.result.now in
    let many : length c.deref-5.result.now ≡ length (degrees_after [] ns) = ap length (c.deref-5.ensures.value ∙ c.in_ok-degrees.ensures) in
    let all = degrees_length [] ns in
    let same : length ns ≡ length c.args.list.now.nodes.items = ap length c.deref-3.ensures.value in
    fit_in _ _ _ _ (omega (arith, many, all, same)) c.deref-6.ensures.value c.requires.constraints

pub returns-clause-constraints : goal.returns-clause-constraints
unfolding constraints_text
returns-clause-constraints g c =
    let number = g.F.PrimeField64.number_of in
    let list = c.args.list.now in
    let ks = list.constants.items in
    let ns = list.nodes.items in
    c.in_ok-constraints.ensures ∙
    same_lines (map phrase_view c.deref-4.result.now) (shown_nodes number ks ns) c.deref-5.result.now (map (degree 0) (nodes_trees ks ns)) c.deref-6.result.now list.constraints.items
    (ap (map phrase_view) c.deref-4.ensures.value ∙ c.in_ok-shown.ensures.phrases ∙ ap (λ js. shown_nodes number js c.deref-2.result.now) c.deref.ensures.value ∙ ap (shown_nodes number ks) c.deref-2.ensures.value)
    (c.deref-5.ensures.value ∙ c.in_ok-degrees.ensures ∙ ap (degrees_after []) c.deref-3.ensures.value ∙ degrees_are ks ns c.requires.nodes)
    c.deref-6.ensures.value

use Rattle.std.proofs.Common.{◌≡◌, ◌∙◌, [], ap, arith, length, map, string_bytes, sym, subst}
use Rattle.stark_symbolic.specs.Degree.{degree}
use Rattle.stark_tree_air.specs.Needed.{NodesBelow}
use Rattle.stark_tree_air.specs.Nodes.{nodes_trees}
use Rattle.stark_show.specs.Expressions.{phrase_view}
use Rattle.stark_show.specs.NodeDegrees.{degrees_after}
use Rattle.stark_show.specs.ShownNodes.{shown_nodes}
use Rattle.stark_show.proofs.DegreeLaw.{degrees_are}
use Rattle.stark_show.proofs.Fitting.{nodes_below}
use Rattle.stark_show.proofs.Passes.{as_many_shown, degrees_length, same_line}
use Rattle.stark_show.proofs.text.equation_of.Goals as goal

pub node_degrees-requires : goal.node_degrees-requires
node_degrees-requires g c = subst (λ ns. NodesBelow 0 ns) (sym c.deref-3.ensures.value) (nodes_below _ 0 _ c.requires.nodes)

pub numbered_line-requires-clause-phrases : goal.numbered_line-requires-clause-phrases
numbered_line-requires-clause-phrases g c =
    let many = as_many_shown g.F.PrimeField64.number_of _ _ c.args.list.now.nodes.items phrase_view c.deref-4.result.now _ c.deref-4.ensures.value c.in_ok-shown.ensures.phrases c.deref-2.ensures.value in
    omega (arith, many, c.requires.place)

pub numbered_line-requires-clause-degrees : goal.numbered_line-requires-clause-degrees
numbered_line-requires-clause-degrees g c =
    let ns = c.deref-3.result.now in
    let many : length c.deref-5.result.now ≡ length (degrees_after [] ns) = ap length (c.deref-5.ensures.value ∙ c.in_ok-degrees.ensures) in
    let all = degrees_length [] ns in
    let same : length ns ≡ length c.args.list.now.nodes.items = ap length c.deref-3.ensures.value in
    omega (arith, many, all, same, c.requires.place)

pub returns : goal.returns
returns g c =
    let number = g.F.PrimeField64.number_of in
    let ks = c.args.list.now.constants.items in
    let ns = c.args.list.now.nodes.items in
    same_line string_bytes _ (map phrase_view c.deref-4.result.now) (shown_nodes number ks ns) c.deref-5.result.now (map (degree 0) (nodes_trees ks ns)) c.args.number c.args.constraint
    (ap (map phrase_view) c.deref-4.ensures.value ∙ c.in_ok-shown.ensures.phrases ∙ ap (λ js. shown_nodes number js c.deref-2.result.now) c.deref.ensures.value ∙ ap (shown_nodes number ks) c.deref-2.ensures.value)
    (c.deref-5.ensures.value ∙ c.in_ok-degrees.ensures ∙ ap (degrees_after []) c.deref-3.ensures.value ∙ degrees_are ks ns c.requires.nodes)
    c.numbered_line.ensures

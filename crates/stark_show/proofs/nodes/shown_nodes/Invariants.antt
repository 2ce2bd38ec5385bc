use Rattle.std.proofs.Common.{map, string_bytes}
use Rattle.stark_show.specs.Expressions.{phrase_view}
use Rattle.stark_show.proofs.Passes.{NodesShown}
use Rattle.stark_show.proofs.nodes.shown_nodes.Given as goal

abbrev pub invariant-loop-node : goal.invariant-loop-node
invariant-loop-node g l = NodesShown g.F.PrimeField64.number_of l.constants l.nodes l.node-index (map phrase_view l.phrases.items) (string_bytes l.lines)

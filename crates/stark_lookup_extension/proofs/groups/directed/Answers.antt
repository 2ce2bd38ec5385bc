use Rattle.std.proofs.Common.{◌≡◌, refl}
use Rattle.stark_tree_air.specs.declared.node.TreeNode.TheVariants.{Negation}
use Rattle.stark_lookup_extension.proofs.Folding.{given_ok, if_ok, on_ok}
use Rattle.stark_lookup_extension.proofs.GroupSteps.{received, sent}
use Rattle.stark_lookup_extension.proofs.groups.directed.Goals as goal

pub returns-in-Sent : goal.returns-in-Sent
returns-in-Sent g c = sent c.args.list.now c.args.times c.args.direction c.in-Sent.is

pub returns-in-Received : goal.returns-in-Received
returns-in-Received g c = if_ok _ c.node.result (λ p made. received c.args.list.now c.node.new.self c.args.times p c.args.direction c.in-Received.is c.node.ensures.constants c.node.ensures.constraints
    (given_ok _ c.node.result p made c.node.ensures.place) (on_ok _ c.node.result p made c.node.ensures.nodes))

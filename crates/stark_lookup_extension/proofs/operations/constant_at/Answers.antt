use Rattle.std.proofs.Common.{◌≡◌, Bor}
use Rattle.stark_tree_air.specs.declared.node.TreeNode.{TreeNode}
use Rattle.stark_lookup_extension.proofs.Constants.{got, got_none, no_node}
use Rattle.stark_lookup_extension.proofs.operations.constant_at.Goals as goal

pub returns-in-Some : goal.returns-in-Some
returns-in-Some g c l ts t h at =
    c.constant_of.ensures l ts c.args.place t h at
    (got (λ (b : Bor TreeNode). b.now) c.deref.result.now c.args.list.now.nodes.items c.args.place c.in-Some.node c.in-Some.ensures.lookup c.deref.ensures.value)

pub returns-in-None : goal.returns-in-None
returns-in-None g c l ts t h at = λ k.
    no_node c.args.list.now l ts c.args.place t h at k
    (got_none {R = Bor TreeNode} (λ b. b.now) c.deref.result.now c.args.list.now.nodes.items c.args.place c.in-None.ensures.lookup c.deref.ensures.value)

use Rattle.std.proofs.Common.{arith}
use Rattle.stark_tree_air.proofs.WrittenConstraints.{begun_none, begun_one, begun_all}
use Rattle.stark_tree_air.proofs.expression.expressions_list.Goals as goal

pub loop-named-init : goal.loop-named-init
loop-named-init g c = begun_none (λ n. n.constraint) c.args.constraints.now c.new-list.result c.new-list.ensures.constants c.new-list.ensures.nodes c.new-list.ensures.constraints

pub loop-named-preserved : goal.loop-named-preserved
loop-named-preserved g c =
    begun_one (λ n. n.constraint) c.args.constraints.now c.loop-named.named-index c.named-item.result c.loop-named.list c.write_constraint.new.list (omega arith) c.named-item.is c.loop-named.invariant c.in_ok-write_constraint.ensures

pub returns : goal.returns
returns g c = begun_all (λ n. n.constraint) c.args.constraints.now c.loop-named.named-index c.loop-named.list (omega arith) c.loop-named.invariant

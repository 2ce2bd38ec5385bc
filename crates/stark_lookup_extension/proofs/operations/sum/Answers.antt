use Rattle.std.proofs.Common.{◌≡◌, ◌∙◌, OnOk, IfOk}
use Rattle.stark_lookup_extension.proofs.Folding.{given_ok, if_ok, it_is, it_isnt, on_ok, sum_of_zero, sum_with_zero, sum_written}
use Rattle.stark_lookup_extension.proofs.operations.sum.Goals as goal

pub returns-then-is_constant : goal.returns-then-is_constant
returns-then-is_constant g c = sum_of_zero g.F.Field.ring c.args.list.now c.args.x c.args.y (it_is c.args.list.now c.args.x c.ZERO.result g.F.Field.ring.zero c.is_constant.result (c.ZERO.ensures ∙ g.met.F.Field.zero_is) c.if-is_constant.true c.is_constant.ensures)

pub returns-then-is_constant-2 : goal.returns-then-is_constant-2
returns-then-is_constant-2 g c = sum_with_zero g.F.Field.ring c.args.list.now c.args.x c.args.y (it_isnt c.args.list.now c.args.x c.ZERO.result g.F.Field.ring.zero c.is_constant.result (c.ZERO.ensures ∙ g.met.F.Field.zero_is) c.if-is_constant.false c.is_constant.ensures) (it_is c.args.list.now c.args.y c.ZERO-2.result g.F.Field.ring.zero c.is_constant-2.result (c.ZERO-2.ensures ∙ g.met.F.Field.zero_is) c.if-is_constant-2.true c.is_constant-2.ensures)

pub returns : goal.returns
returns g c = if_ok _ c.node.result (λ p made. sum_written g.F.Field.ring c.args.list.now c.args.x c.args.y c.node.new.self p c.node.ensures.constants c.node.ensures.constraints
    (given_ok _ c.node.result p made c.node.ensures.place) (on_ok _ c.node.result p made c.node.ensures.nodes) (it_isnt c.args.list.now c.args.x c.ZERO.result g.F.Field.ring.zero c.is_constant.result (c.ZERO.ensures ∙ g.met.F.Field.zero_is) c.if-is_constant.false c.is_constant.ensures) (it_isnt c.args.list.now c.args.y c.ZERO-2.result g.F.Field.ring.zero c.is_constant-2.result (c.ZERO-2.ensures ∙ g.met.F.Field.zero_is) c.if-is_constant-2.false c.is_constant-2.ensures))

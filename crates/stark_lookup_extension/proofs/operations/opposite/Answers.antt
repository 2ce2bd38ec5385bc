use Rattle.std.proofs.Common.{◌≡◌, ◌∙◌, OnOk, IfOk}
use Rattle.stark_lookup_extension.proofs.Folding.{given_ok, if_ok, it_is, it_isnt, on_ok, opposite_of_zero, opposite_written}
use Rattle.stark_lookup_extension.proofs.operations.opposite.Goals as goal

pub returns-then-is_constant : goal.returns-then-is_constant
returns-then-is_constant g c = opposite_of_zero g.F.Field.ring c.args.list.now c.args.x c.args.x (it_is c.args.list.now c.args.x c.ZERO.result g.F.Field.ring.zero c.is_constant.result (c.ZERO.ensures ∙ g.met.F.Field.zero_is) c.if-is_constant.true c.is_constant.ensures)

pub returns : goal.returns
returns g c = if_ok _ c.node.result (λ p made. opposite_written g.F.Field.ring c.args.list.now c.args.x c.args.x c.node.new.self p c.node.ensures.constants c.node.ensures.constraints
    (given_ok _ c.node.result p made c.node.ensures.place) (on_ok _ c.node.result p made c.node.ensures.nodes) (it_isnt c.args.list.now c.args.x c.ZERO.result g.F.Field.ring.zero c.is_constant.result (c.ZERO.ensures ∙ g.met.F.Field.zero_is) c.if-is_constant.false c.is_constant.ensures))

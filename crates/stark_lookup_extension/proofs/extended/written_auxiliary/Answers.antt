use Rattle.std.proofs.Common.{◌≡◌, arith, rules}
use Rattle.stark_lookup_extension.proofs.ExtendedSteps.{auxiliary_steps, sum_room}
use Rattle.stark_lookup_extension.proofs.extended.written_auxiliary.Goals as goal

pub returns-clause-auxiliary : goal.returns-clause-auxiliary
returns-clause-auxiliary g c =
    auxiliary_steps c.args.size c.args.first c.args.groups c.args.list.now c.leaf_blocks.new.list c.leaves.new.list c.leaves-2.new.list (record { helpers = c.in_ok-helpers.helpers; sum = c.in_ok-sum.sum; next = c.in_ok-next.next })
    c.in_ok-helpers.ensures.blocks c.in_ok-sum.ensures c.in_ok-next.ensures

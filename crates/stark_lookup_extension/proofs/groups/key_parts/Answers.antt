use Rattle.std.proofs.Common.{◌∙◌, rules}
use Rattle.stark_lookup_extension.proofs.GroupSteps.{parts_steps}
use Rattle.stark_lookup_extension.proofs.Steps.{own_constant}
use Rattle.stark_lookup_extension.proofs.groups.key_parts.Goals as goal

pub returns-clause-parts : goal.returns-clause-parts
returns-clause-parts g c =
    parts_steps g.F.Field.ring c.args.list.now c.constant.new.self c.written_tag.new.list _ (record { tag = c.in_ok-tag.tag; zero = c.in_ok-zero.zero; width = c.args.width }) c.ZERO.result (c.ZERO.ensures ∙ g.met.F.Field.zero_is)
    (λ l ts h. own_constant l ts c.args.list.now c.constant.new.self c.in_ok-zero.zero h c.ZERO.result c.in_ok-zero.ensures.constants c.constant.ensures.constraints c.in_ok-zero.ensures.nodes c.in_ok-zero.ensures.place) c.in_ok-tag.ensures

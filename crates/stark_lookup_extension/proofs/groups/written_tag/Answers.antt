use Rattle.std.proofs.Common.{◌≡◌, rules, false, true}
use Rattle.stark_lookup_extension.proofs.GroupSteps.{no_tag, one_tag}
use Rattle.stark_lookup_extension.proofs.Steps.{own_constant}
use Rattle.stark_lookup_extension.proofs.groups.written_tag.Goals as goal

pub returns-then-not-numbered : goal.returns-then-not-numbered
returns-then-not-numbered g c = no_tag c.args.list.now c.args.number _ c.args.numbered (search rules) (search rules)

pub returns : goal.returns
returns g c =
    one_tag c.args.list.now c.constant.new.self c.args.number _ c.args.numbered c.in_ok-place.place (search rules) (search rules)
    (λ l ts h. own_constant l ts c.args.list.now c.constant.new.self c.in_ok-place.place h c.args.number c.in_ok-place.ensures.constants c.constant.ensures.constraints c.in_ok-place.ensures.nodes c.in_ok-place.ensures.place)

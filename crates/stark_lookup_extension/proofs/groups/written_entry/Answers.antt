use Rattle.std.proofs.Common.{◌≡◌, subst}
use Rattle.stark_lookup_extension.specs.WrittenGroups.{key_places}
use Rattle.stark_lookup_extension.proofs.GroupSteps.{entry_steps}
use Rattle.stark_lookup_extension.proofs.groups.written_entry.Goals as goal

pub returns : goal.returns
returns g c nodes =
    entry_steps g.F.Field.ring nodes c.args.list.now c.directed.new.list c.args.parts.now c.args.given.now (record { key = c.in_ok-key.key; multiplicity = c.in_ok-multiplicity.multiplicity })
    (subst (λ tuple. c.in_ok-key.key.items ≡ key_places c.args.parts.now tuple) c.deref.ensures.value c.in_ok-key.ensures) c.in_ok-multiplicity.ensures

use Rattle.std.proofs.Common.{◌∙◌, ap, map}
use Rattle.stark_logup.specs.Lookups.{compressed}
use Rattle.stark_lookup_trace.specs.AuxiliaryColumns.{entries_of, entry_pairs}
use Rattle.stark_lookup_trace.specs.Tuples.{entry_over}
use Rattle.stark_lookup_trace.proofs.TupleSteps.{all_made, one_more_made}
use Rattle.stark_lookup_trace.proofs.tuples.compressed_groups.Goals as goal

pub loop-group-preserved : goal.loop-group-preserved
loop-group-preserved g c =
    let ring = g.EF.Field.ring in
    let embed = g.EF.ExtensionField.embed in
    let beta = c.args.beta in
    one_more_made (λ v. entry_pairs v.items) (λ v. map (compressed ring beta) (map (entry_over embed) v.items)) c.args.groups.now c.loop-group.group-index c.group-item.result _ c.loop-group.all.items _
    c.loop-group-test.true c.group-item.is (c.in_ok-compressed_group.ensures ∙ ap (λ t. map (compressed ring beta) (map (entry_over embed) t)) c.deref.ensures.value) c.in_ok-push.ensures.items c.loop-group.invariant

pub returns : goal.returns
returns g c =
    all_made (map (compressed g.EF.Field.ring c.args.beta)) (λ v. map (entry_over g.EF.ExtensionField.embed) v.items) c.args.groups.now c.loop-group.group-index (entries_of c.loop-group.all.items)
    c.loop-group-test.false c.loop-group.invariant

use Rattle.std.proofs.Common.{◌∙◌, ap}
use Rattle.stark_support.specs.Polynomial.{value_over}
use Rattle.stark_logup.specs.Columns.{entry_of}
use Rattle.stark_logup.specs.Lookups.{compressed}
use Rattle.stark_lookup_trace.specs.AuxiliaryColumns.{entry_pairs}
use Rattle.stark_lookup_trace.specs.Tuples.{entry_over}
use Rattle.stark_lookup_trace.proofs.TupleSteps.{all_made, entry_is_compressed, one_more_made}
use Rattle.stark_lookup_trace.proofs.tuples.compressed_group.Goals as goal

pub loop-entry-preserved : goal.loop-entry-preserved
loop-entry-preserved g c =
    let ring = g.EF.Field.ring in
    let embed = g.EF.ExtensionField.embed in
    let beta = c.args.beta in
    one_more_made entry_of (λ e. compressed ring beta (entry_over embed e)) c.args.group.now c.loop-entry.entry-index c.entry-item.result _ c.loop-entry.pairs.items _ c.loop-entry-test.true c.entry-item.is
    (entry_is_compressed ring embed beta c.entry-item.result c.polynomial_value_in-key.result c.from_base.result
    (c.polynomial_value_in-key.ensures ∙ ap (λ t. value_over ring embed t beta) c.deref.ensures.value) c.from_base.ensures)
    c.in_ok-push.ensures.items c.loop-entry.invariant

pub returns : goal.returns
returns g c =
    all_made (compressed g.EF.Field.ring c.args.beta) (entry_over g.EF.ExtensionField.embed) c.args.group.now c.loop-entry.entry-index (entry_pairs c.loop-entry.pairs.items) c.loop-entry-test.false c.loop-entry.invariant

use Rattle.std.proofs.Common.{arith, vec_len}
use Rattle.stark_support.specs.PeriodicValueFacts.{values_in_row}
use Rattle.stark_support.proofs.Places.{all_mapped_front}
use Rattle.stark_support.specs.PeriodicFacts.{power_of_column}
use Rattle.stark_support.proofs.periodic.PeriodicColumns.values_at.Goals as goal

pub periodic_value-requires-clause-power : goal.periodic_value-requires-clause-power
periodic_value-requires-clause-power g c =
    power_of_column vec_len c.args.self.now.trace_len c.args.self.now.columns.now c.loop-column.column-index c.column-item.result _ c.args.self.now.fit (omega arith) c.column-item.is c.deref.ensures.len

pub returns-clause-rows : goal.returns-clause-rows
returns-clause-rows g c = λ i at k column listed.
    values_in_row g.met.F.Field.field_laws g.met.EF.ExtensionField.embeds.keeps c.args.generator c.args.self.now.trace_len c.requires.order c.requires.height (λ column. column.items) vec_len (λ column. column.ok.0)
    c.args.self.now.columns.now _ c.args.point i c.args.self.now.fit
    (all_mapped_front c.loop-column.values.items _ c.args.self.now.columns.now c.loop-column.column-index (omega arith) c.loop-column.invariant) at k column listed

use Rattle.std.proofs.Common.{sym}
use Rattle.stark_language.proofs.Naming.{number_here, number_later, number_nowhere}
use Rattle.stark_language.proofs.writer.node_of_number.Goals as goal

pub returns-then-entry-value : goal.returns-then-entry-value
returns-then-entry-value c = sym (number_here c.args.numbers.now c.args.value c.loop-entry.entry-index _ c.loop-entry-test.true c.if-entry-value.true c.loop-entry.invariant)

pub loop-entry-preserved : goal.loop-entry-preserved
loop-entry-preserved c = number_later c.args.numbers.now c.args.value c.loop-entry.entry-index _ c.loop-entry-test.true c.if-entry-value.false c.loop-entry.invariant

pub returns : goal.returns
returns c = sym (number_nowhere c.args.numbers.now c.args.value c.loop-entry.entry-index c.loop-entry-test.false c.loop-entry.invariant)

use Rattle.std.proofs.Common.{◌≡◌, ◌-◌}
use Rattle.stark_language.specs.Nodes.{multiplied, writer_view}
use Rattle.stark_language.proofs.writer.Writer.multiplied.Given as goal

abbrev pub invariant-loop-step : goal.invariant-loop-step
invariant-loop-step l = multiplied l.factor (l.count - l._step) l.product (writer_view l.self) ≡ multiplied l.factor l.count l.start (writer_view l.fn.self)

use Rattle.std.proofs.Common.{◌≡◌, drop, map}
use Rattle.stark_language.specs.Expressions.{step_view}
use Rattle.stark_language.specs.Nodes.{writer_view, written}
use Rattle.stark_language.proofs.writer.Writer.write.Given as goal

abbrev pub invariant-loop-step : goal.invariant-loop-step
invariant-loop-step l = written l.modulus (map step_view (drop l.step-index l.steps)) (writer_view l.self) ≡ written l.modulus (map step_view l.steps) (writer_view l.fn.self)

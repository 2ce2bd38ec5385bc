use Rattle.std.proofs.Common.{map}
use Rattle.std.proofs.lemmas.Result.{err_from_is_err_and}
use Rattle.stark_language.specs.Expressions.{step_view}
use Rattle.stark_language.specs.Nodes.{writer_view, written}
use Rattle.stark_language.proofs.Naming.{step_fails, step_goes, steps_end}
use Rattle.stark_language.proofs.writer.Writer.write.Goals as goal

pub returns-in_err-stepped : goal.returns-in_err-stepped
returns-in_err-stepped c =
    let p = err_from_is_err_and c.from_residual.result c.from_residual.ensures.1 in
    rw (p.1, p.2) (step_fails step_view c.args.modulus c.args.steps.now c.loop-step.step-index (writer_view c.loop-step.self) (written c.args.modulus (map step_view c.args.steps.now) (writer_view c.args.self.now)) _ c.in_err-stepped.field-0.0 c.loop-step-test.true c.in_err-stepped.ensures c.loop-step.invariant)

pub loop-step-preserved : goal.loop-step-preserved
loop-step-preserved c =
    step_goes step_view c.args.modulus c.args.steps.now c.loop-step.step-index (writer_view c.loop-step.self) (written c.args.modulus (map step_view c.args.steps.now) (writer_view c.args.self.now)) _ (writer_view c.stepped.new.self) c.loop-step-test.true c.in_ok-stepped.ensures c.loop-step.invariant

pub returns : goal.returns
returns c =
    steps_end step_view c.args.modulus c.args.steps.now c.loop-step.step-index (writer_view c.loop-step.self) (written c.args.modulus (map step_view c.args.steps.now) (writer_view c.args.self.now)) c.loop-step-test.false c.loop-step.invariant

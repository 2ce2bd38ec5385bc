use Rattle.std.proofs.Common.{inl}
use Rattle.stark_cli.proofs.StatementMeaning.{few_said}
use Rattle.stark_cli.proofs.floors.floor_finding.Goals as goal

pub returns-in-Ok : goal.returns-in-Ok
returns-in-Ok c = inl (few_said c.args.report.answer c.in-NotJudged.proved c.in-Ok.line c.in-NotJudged.is c.in-Ok.ensures)

use Rattle.std.proofs.Common.{length}
use Rattle.stark_cli.proofs.arguments.+task_of.Given as goal

abbrev pub decreases-task_of : goal.decreases-task_of
decreases-task_of l = length l.words.now

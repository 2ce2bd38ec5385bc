use Rattle.std.proofs.Common.{length}
use Rattle.stark_key_runs.proofs.words.+judging.Given as goal

abbrev pub decreases-judging : goal.decreases-judging
decreases-judging l = length l.words.now

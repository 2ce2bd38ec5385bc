use Rattle.std.proofs.Common.{length}
use Rattle.stark_cli.proofs.misuse.+misuse_of_verb.Given as goal

abbrev pub decreases-misuse_of_verb : goal.decreases-misuse_of_verb
decreases-misuse_of_verb l = length l.words.now

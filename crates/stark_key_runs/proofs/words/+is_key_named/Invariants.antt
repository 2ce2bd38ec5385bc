use Rattle.std.proofs.Common.{length}
use Rattle.stark_key_runs.proofs.words.+is_key_named.Given as goal

abbrev pub decreases-is_key_named : goal.decreases-is_key_named
decreases-is_key_named l = length l.words.now

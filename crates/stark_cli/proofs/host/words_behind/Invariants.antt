use Rattle.std.proofs.Common.{◌≡◌, ◌++◌, drop, length}
use Rattle.std.specs.Vec.Iter.{into_iter_items, into_iter_len}
use Rattle.stark_cli.proofs.host.words_behind.Given as goal

abbrev pub invariant-loop-word : goal.invariant-loop-word
invariant-loop-word l = (l.words.items ++ into_iter_items l.word-iterator ≡ drop 1 (into_iter_items l.fn.all))
    × (into_iter_len l.word-iterator ≡ length (into_iter_items l.word-iterator))

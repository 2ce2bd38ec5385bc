use Rattle.std.proofs.Common.{◌≡◌, ◌-◌, ◌^◌, length, vec_len}
use Rattle.std.specs.Io.KnownBytes.{Consumes}
use Rattle.stark_cli.proofs.streams.read_to_end.Given as goal

abbrev pub invariant-chunks : goal.invariant-chunks
invariant-chunks g l = (g.R.Source.has_failed l.reader ≡ g.R.Source.has_failed l.initial.reader) × (length l.chunk ≡ 4096)
    × Consumes (g.R.Source.remaining l.initial.reader) (g.R.Source.remaining l.reader) l.all.items

abbrev pub decreases-chunks : goal.decreases-chunks
decreases-chunks g l = 2 ^ 64 - vec_len l.all

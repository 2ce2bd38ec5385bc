use Rattle.std.proofs.Common.{◌≡◌, length}
use Rattle.std.specs.Io.KnownBytes.{Keeps}
use Rattle.stark_cli.proofs.sources.WatchedReaderSource.read.Given as goal

abbrev pub invariant-loop : goal.invariant-loop
invariant-loop g l = (l.self.failed ≡ l.initial.self.failed) × (length l.buffer ≡ length l.initial.buffer)
    × Keeps (g.R.Read.remaining l.initial.self.inner) (g.R.Read.remaining l.self.inner)

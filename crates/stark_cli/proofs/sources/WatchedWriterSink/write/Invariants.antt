use Rattle.std.proofs.Common.{◌≡◌}
use Rattle.std.specs.Io.KnownBytes.{Keeps}
use Rattle.stark_cli.proofs.sources.WatchedWriterSink.write.Given as goal

abbrev pub invariant-loop : goal.invariant-loop
invariant-loop g l = (l.self.failed ≡ l.initial.self.failed)
    × Keeps (g.W.Write.contents l.initial.self.inner) (g.W.Write.contents l.self.inner)

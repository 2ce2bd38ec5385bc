use Rattle.std.proofs.Common.{◌≡◌, ◌≤◌, ◌-◌, length, take}
use Rattle.std.specs.Io.KnownBytes.{Appends}
use Rattle.stark_cli.proofs.streams.write_all.Given as goal

abbrev pub invariant-pieces : goal.invariant-pieces
invariant-pieces g l = (g.W.Sink.has_failed l.writer ≡ g.W.Sink.has_failed l.initial.writer) × (l.done ≤ length l.bytes)
    × Appends (g.W.Sink.contents l.initial.writer) (g.W.Sink.contents l.writer) (take l.done l.bytes)

abbrev pub decreases-pieces : goal.decreases-pieces
decreases-pieces g l = length l.bytes - l.done

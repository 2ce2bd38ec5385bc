use Rattle.std.proofs.Common.{◌≡◌, ◌+◌, drop, map, option_map}
use Rattle.stark_language.specs.Nodes.{entry_view, place_of}
use Rattle.stark_language.proofs.writer.place_of.Given as goal

abbrev pub invariant-loop-place : goal.invariant-loop-place
invariant-loop-place l = option_map (λ n. n + l.place) (place_of l.name (map entry_view (drop l.place l.names))) ≡ place_of l.name (map entry_view l.names)

use Rattle.std.proofs.Common.{◌≡◌, ◌==◌, drop, length, map}
use Rattle.std.specs.List.{list_all}
use Rattle.stark_verifier.proofs.opened.have_length.Given as goal

abbrev pub invariant-loop-chunk : goal.invariant-loop-chunk
invariant-loop-chunk g l =
    list_all (λ chunk. length chunk == l.dimension) (map (λ chunk. chunk.items) (drop l.chunk-index l.chunks)) ≡ list_all (λ chunk. length chunk == l.dimension) (map (λ chunk. chunk.items) l.chunks)

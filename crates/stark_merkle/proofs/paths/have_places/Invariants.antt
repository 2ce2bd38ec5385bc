use Rattle.std.proofs.Common.{◌<◌, ◌^◌, ℕ, slice_index}
use Rattle.stark_merkle.proofs.paths.have_places.Given as goal

abbrev pub invariant-loop-i : goal.invariant-loop-i
invariant-loop-i l = (k : ℕ) → k < l.i → slice_index l.indices k < 2 ^ l.depth

use Rattle.std.proofs.Common.{◌≡◌, drop}
use Rattle.stark_support.specs.Sponge.{observed_bytes}
use Rattle.stark_support.proofs.challenger.observe_bytes.Given as goal

-- What is left to observe, observed from here, gives what all of it gives from the start.
abbrev pub invariant-loop-byte : goal.invariant-loop-byte
invariant-loop-byte g l = observed_bytes g.C.CanObserve.after_observe g.F.PrimeField64.of_number (drop l.byte-index l.bytes) l.challenger ≡ observed_bytes g.C.CanObserve.after_observe g.F.PrimeField64.of_number l.fn.bytes l.fn.challenger

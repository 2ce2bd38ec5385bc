-- The values of auxiliary columns.
use Rattle.std.specs.Prelude.{ℕ, zero, suc}
use Rattle.stark_support.specs.Ring.{RingOps}
use Rattle.stark_logup.specs.Fractions.{Entry}

-- a key and a multiplicity
abbrev pub entry_of : {K : Type 0} → K × K → Entry K K
entry_of pair = record { key = pair.0; multiplicity = pair.1 }

-- f(0) + .. + f(n - 1)
abbrev pub sum_below : {K : Type 0} → RingOps K → (ℕ → K) → ℕ → K
sum_below ring f zero = ring.zero
sum_below ring f (suc n) = ring.add (sum_below ring f n) (f n)

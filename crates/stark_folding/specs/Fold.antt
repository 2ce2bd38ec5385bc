-- Folding by two: a polynomial's even coefficients plus beta times its odd ones.
use Rattle.std.specs.Prelude.{◌-◌}
use Rattle.stark_support.specs.Ring.{RingOps, difference}
use Rattle.stark_support.specs.Coset.{TwoAdicCoset}
unfoldable pub use Rattle.stark_support.specs.Folding.{evens, folded, odds}

-- 1 / 2
abbrev pub half_of : {K : Type 0} → RingOps K → (K → K) → K
half_of ring inverse = inverse (ring.add ring.one ring.one)

-- (a + b) / 2 + beta * (a - b) / (2 x), where a and b are the values at x and at -x.
abbrev pub folded_pair : {K : Type 0} → RingOps K → (K → K) → K → K → K → K → K
folded_pair ring inverse beta x a b = ring.mul (half_of ring inverse) (ring.add (ring.add a b) (ring.mul (ring.mul beta (inverse x)) (difference ring a b)))

-- The coset of the squares of a coset's points.
abbrev pub squared_coset : {K : Type 0} → RingOps K → TwoAdicCoset K → TwoAdicCoset K
squared_coset ring c = record { shift = ring.mul c.shift c.shift; log_size = c.log_size - 1 }

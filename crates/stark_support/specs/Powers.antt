-- Powers in a ring.
use Rattle.std.specs.Prelude.{ℕ, zero, suc}
use Rattle.stark_support.specs.Ring.{RingOps}

-- x times itself n times
unfoldable pub power : {K : Type 0} → RingOps K → K → ℕ → K
power ring x zero = ring.one
power ring x (suc n) = ring.mul x (power ring x n)

-- x squared k times, which is x ^ (2 ^ k)
unfoldable pub squarings : {K : Type 0} → RingOps K → K → ℕ → K
squarings ring x zero = x
squarings ring x (suc k) = ring.mul (squarings ring x k) (squarings ring x k)

-- x ^ (n - 1) + .. + x + 1
unfoldable pub power_sum : {K : Type 0} → RingOps K → K → ℕ → K
power_sum ring x zero = ring.zero
power_sum ring x (suc n) = ring.add (power ring x n) (power_sum ring x n)

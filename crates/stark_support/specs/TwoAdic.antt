-- Roots of one whose order is a power of two.
use Rattle.std.specs.Prelude.{◌≡◌, ◌≢◌, ℕ, ◌<◌, suc}
use Rattle.stark_support.specs.Ring.{RingOps}
use Rattle.stark_support.specs.Powers.{power, squarings}

-- root k has order 2 ^ k for each k up to the adicity, which a machine's count of bits holds, and
-- the generator lies outside the group of 2 ^ adicity elements.
pub record TwoAdicLaws {K : Type 0} (ring : RingOps K) (adicity : ℕ) (root : ℕ → K) (generator : K) : Type 0 where
  pub bounded : adicity < 64
  pub root_zero : root 0 ≡ ring.one
  pub root_one : root 1 ≡ ring.neg ring.one
  pub root_square : (k : ℕ) → k < adicity → ring.mul (root (suc k)) (root (suc k)) ≡ root k
  pub odd : ring.one ≢ ring.neg ring.one
  pub outside : squarings ring generator adicity ≢ ring.one
  pub generator_nonzero : generator ≢ ring.zero

-- The powers of x reach one at n for the first time.
pub record HasOrder {K : Type 0} (ring : RingOps K) (x : K) (n : ℕ) : Type 0 where
  pub reaches : power ring x n ≡ ring.one
  pub first : (k : ℕ) → 0 < k → k < n → power ring x k ≢ ring.one

-- What stands in a transform's buffer between two passes.
use Rattle.std.specs.Prelude.{◌≡◌, ℕ, ◌+◌, ◌-◌, ◌*◌, ◌<◌, List}
use Rattle.stark_support.specs.Ring.{RingOps}
use Rattle.stark_support.specs.Polynomial.{value}
use Rattle.stark_support.specs.Powers.{squarings}
use Rattle.stark_dft.specs.Passes.{entry, point_at}
use Rattle.stark_dft.specs.Strided.{strided}

-- The squares of the points `fine i` and of their opposites `fine (blocks + i)` are the points `coarse i`.
pub record AreRoots {K : Type 0} (ring : RingOps K) (blocks : ℕ) (coarse fine : ℕ → K) : Type 0 where
  pub squared : (i : ℕ) → ring.mul (fine i) (fine i) ≡ coarse i
  pub opposite : (i : ℕ) → fine (blocks + i) ≡ ring.neg (fine i)

-- Place q of block i has, up to a factor, the value at point i of the polynomial of the coefficients q, q + block, ..
pub record AreValuesInBlocks {K : Type 0} (ring : RingOps K) (factor : K) (coefficient : ℕ → K) (block blocks : ℕ) (points : ℕ → K) (values : List K) : Type 0 where
  pub value_at : (i q : ℕ) → i < blocks → q < block → ring.mul factor (entry ring values (i * block + q)) ≡ value ring (strided coefficient q block blocks) (points i)

-- Whatever coefficients have these values in blocks, up to a factor, they have `scale` times the `given` values in rows at the last points.
pub record LeadsTo {K : Type 0} (ring : RingOps K) (block blocks : ℕ) (points : ℕ → K) (values : List K) (scale : K) (width height : ℕ) (last : ℕ → K) (given : List K) : Type 0 where
  pub leads : (factor : K) (coefficient : ℕ → K) → AreValuesInBlocks ring factor coefficient block blocks points values
      → AreValuesInBlocks ring (ring.mul factor scale) coefficient width height last given

-- The points between the passes over a coset of 2 ^ log_size: at level k the squares of squares of its points, 2 ^ k of them.
abbrev pub level_point : {K : Type 0} → RingOps K → (ℕ → K) → K → ℕ → ℕ → ℕ → K
level_point ring root shift log_size level i = point_at ring (squarings ring shift (log_size - level)) (root level) i

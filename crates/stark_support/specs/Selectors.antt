-- The row selectors of a subgroup, not normalised: each is written out as a sum.
use Rattle.std.specs.Prelude.{ℕ}
use Rattle.stark_support.specs.Ring.{RingOps, difference}
use Rattle.stark_support.specs.Powers.{power_sum}

-- A subgroup's generator, the generator's inverse and the number of points.
pub record Subgroup (K : Type 0) : Type 0 where
  pub generator : K
  pub generator_inverse : K
  pub size : ℕ

-- the sum of x ^ k for k below the size, which is Z/(x - 1)
abbrev pub first_row_selector : {K : Type 0} {E : Type 0} → RingOps E → (K → E) → Subgroup K → E → E
first_row_selector ring constant subgroup x = power_sum ring x subgroup.size

-- the sum of h ^ (k + 1) * x ^ k for k below the size, which is Z/(x - 1/h)
abbrev pub last_row_selector : {K : Type 0} {E : Type 0} → RingOps E → (K → E) → Subgroup K → E → E
last_row_selector ring constant subgroup x = ring.mul (constant subgroup.generator) (power_sum ring (ring.mul (constant subgroup.generator) x) subgroup.size)

-- x - 1/h
abbrev pub transition_selector : {K : Type 0} {E : Type 0} → RingOps E → (K → E) → Subgroup K → E → E
transition_selector ring constant subgroup x = difference ring x (constant subgroup.generator_inverse)

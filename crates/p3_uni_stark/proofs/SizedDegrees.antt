-- Degrees that fit the quotient's domain.
use Rattle.std.proofs.Common.{◌+◌, ◌≤◌, ℕ, Bool, true, false, List, Option, arith}
use Rattle.stark_support.specs.Scheme.{zk_bits}
use Rattle.stark_air.specs.Tree.{Constraint}
use Rattle.stark_parts.proofs.SizingSteps.{sized_enough}
use Rattle.stark_parts.specs.SizingLaw.{AreSizable, HasSmallBound}
use Rattle.stark_protocol.specs.QuotientFacts.{log_parts_ceiling}
use Rattle.stark_protocol.specs.Sizes.{log_parts_of}

one_bit : (is_zk : Bool) → zk_bits is_zk ≤ 1
one_bit true = omega arith
one_bit false = omega arith

pub sizable_degrees_fit : {F : Type 0} (constraints : List (Constraint F)) → AreSizable constraints → (hint : Option ℕ) (is_zk : Bool) (height : ℕ)
    → HasSmallBound constraints height (height + zk_bits is_zk) (log_parts_of constraints hint (zk_bits is_zk))
sizable_degrees_fit constraints sizable hint is_zk height =
    sized_enough constraints sizable hint height _ 0 (zk_bits is_zk) (one_bit is_zk) (log_parts_ceiling constraints hint (zk_bits is_zk)).covers

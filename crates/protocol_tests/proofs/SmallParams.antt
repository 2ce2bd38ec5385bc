-- The batched openings of an AIR of eight columns, of small degree, are few.
use Rattle.std.proofs.Common.{◌≡◌, arith, ℕ, ◌+◌, ◌-◌, ◌^◌, ◌<◌, ◌≤◌, max, Bool, true, false, List, Option}
use Rattle.std.specs.Prelude.{unwrap_or}
use Rattle.stark_support.specs.LogarithmFacts.{two_power_at_most}
use Rattle.stark_support.specs.Scheme.{zk_bits}
use Rattle.stark_air.specs.Tree.{Constraint}
use Rattle.stark_symbolic.specs.Degree.{greatest_degree}
use Rattle.stark_parts.specs.Sizing.{quotient_multiple}
use Rattle.stark_security.specs.ErrorBound.{IsChunkCount}
use Rattle.stark_security.specs.Openings.{batched_openings, hides, random_columns}
use Rattle.stark_security.specs.declared.openings.OpeningShape.{OpeningShape}
use Rattle.stark_security.specs.declared.openings.OpeningShape.TheVariants.{TwoAdic, Circle, Hiding}

small_multiple : (a h z : ℕ) → a ≤ 5 → h ≤ 5 → z ≤ 1 → quotient_multiple (max a h) z ≤ 8
small_multiple a h z few hint bit = grind (arith, few, hint, bit)

few_chunks : {F : Type 0} (constraints : List (Constraint F)) (hint : Option ℕ) (is_zk chunks : ℕ) → greatest_degree 0 constraints ≤ 5 → unwrap_or hint 0 ≤ 5 → is_zk ≤ 1
    → IsChunkCount 0 constraints hint is_zk chunks → chunks ≤ 16
few_chunks constraints hint is_zk chunks degree bound bit count =
    let log : count.log ≤ 3 = count.sized.least 3 (small_multiple (greatest_degree 0 constraints) (unwrap_or hint 0) is_zk degree bound bit) in
    let number = count.number in
    let grown = two_power_at_most (count.log + is_zk) 4 (omega (arith, log, bit)) in
    omega (arith, number, grown)

a_bit : (b : Bool) → zk_bits b ≤ 1
a_bit true = omega arith
a_bit false = omega arith

few_batched : (read other : Bool) (chunks : ℕ) (shape : OpeningShape) → chunks ≤ 16 → random_columns shape ≡ 0 → batched_openings 8 read 0 other chunks 4 shape < 2 ^ 64
few_batched true true chunks TwoAdic few none = omega (arith, few)
few_batched true false chunks TwoAdic few none = omega (arith, few)
few_batched false true chunks TwoAdic few none = omega (arith, few)
few_batched false false chunks TwoAdic few none = omega (arith, few)
few_batched true true chunks Circle few none = omega (arith, few)
few_batched true false chunks Circle few none = omega (arith, few)
few_batched false true chunks Circle few none = omega (arith, few)
few_batched false false chunks Circle few none = omega (arith, few)
few_batched true true chunks (Hiding n) few none = rw none (omega (arith, few))
few_batched true false chunks (Hiding n) few none = rw none (omega (arith, few))
few_batched false true chunks (Hiding n) few none = rw none (omega (arith, few))
few_batched false false chunks (Hiding n) few none = rw none (omega (arith, few))

-- of a layout with eight main columns and no preprocessed one
pub batched_fit : {F : Type 0} {constraints : List (Constraint F)} {hint : Option ℕ} {chunks : ℕ} (shape : OpeningShape) → IsChunkCount 0 constraints hint (zk_bits (hides shape)) chunks
    → (read other : Bool) (main preprocessed : ℕ) → greatest_degree 0 constraints ≤ 5 → unwrap_or hint 0 ≤ 5
    → main ≡ 8 → preprocessed ≡ 0 → random_columns shape ≡ 0 → batched_openings main read preprocessed other chunks 4 shape < 2 ^ 64
batched_fit {constraints = constraints} {hint = hint} {chunks = chunks} shape count read other main preprocessed degree bound wide none random =
    rw wide (rw none (few_batched read other chunks shape (few_chunks constraints hint (zk_bits (hides shape)) chunks degree bound (a_bit (hides shape)) count) random))

-- Sums and products that saturate, under a least number that doesn't.
use Rattle.std.proofs.Common.{◌≡◌, ◌∙◌, ℕ, ◌+◌, ◌≤◌, ap, arith}
use Rattle.std.specs.Prelude.{min}

-- A product that saturates, and a number added with saturation, are their sum with saturation.
sum_saturates : (most product more saturated sum : ℕ) → saturated ≡ min product most → sum ≡ min (saturated + more) most → sum ≡ min (product + more) most
sum_saturates most product more saturated sum e f = omega arith

outwards : (n most x : ℕ) → min (min n most) x ≡ min (min n x) most
outwards n most x = omega arith

without : (n most x : ℕ) → x ≤ most → min (min n most) x ≡ min n x
without n most x below = omega arith

-- Below the greatest number the least of five isn't changed by saturation of the first.
pub least_saturates : (most product more saturated sum x y z w : ℕ) → w ≤ most → saturated ≡ min product most → sum ≡ min (saturated + more) most
    → min (min (min (min sum x) y) z) w ≡ min (min (min (min (product + more) x) y) z) w
least_saturates most product more saturated sum x y z w below e f =
    let n = product + more in
    ap (λ t. min (min (min (min t x) y) z) w) (sum_saturates most product more saturated sum e f)
    ∙ ap (λ t. min (min (min t y) z) w) (outwards n most x)
    ∙ ap (λ t. min (min t z) w) (outwards (min n x) most y)
    ∙ ap (λ t. min t w) (outwards (min (min n x) y) most z)
    ∙ without (min (min (min n x) y) z) most w below

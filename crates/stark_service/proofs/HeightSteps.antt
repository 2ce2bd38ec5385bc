-- A height above any number of rows.
use Rattle.std.proofs.Common.{◌≡◌, ℕ, zero, suc, ◌+◌, ◌-◌, ◌^◌, ◌<◌, ◌≤◌, false, ap, arith, ne_eqb, nat_eq, pow-suc, sym}

at_least : (d : ℕ) → 2 ^ 64 ≤ 2 ^ (64 + d)
at_least zero = omega arith
at_least (suc d) =
    let next : 64 + suc d ≡ suc (64 + d) = omega arith in
    omega (arith, at_least d, ap (λ n. 2 ^ n) next, pow-suc 2 (64 + d))

never_so_high : (rows k : ℕ) → rows < 2 ^ 64 → (k < 64 → ⊥) → rows ≡ 2 ^ k → ⊥
never_so_high rows k below high is =
    let above : k ≡ 64 + (k - 64) = omega arith in
    omega (arith, below, is, ap (λ n. 2 ^ n) above, at_least (k - 64))

-- No trace is so high.
pub too_high : (rows k : ℕ) → rows < 2 ^ 64 → (k < 64 → ⊥) → false ≡ nat_eq rows (2 ^ k)
too_high rows k below high = sym (ne_eqb rows (2 ^ k) (never_so_high rows k below high))

-- How many chunks there are at most, and no bound for more rows than 64 bits count.
use Rattle.std.proofs.Common.{◌≡◌, ℕ, ◌+◌, ◌-◌, ◌*◌, ◌^◌, ◌<◌, ◌≤◌, max, min, List, Option, Some, None, refl, sym, ap, subst, arith, if◌then◌else◌}
use Rattle.std.proofs.Math.Pow.{pow_mono}
use Rattle.std.proofs.lemmas.Bool.{le-ltb}
use Rattle.stark_air.specs.Tree.{Constraint}
use Rattle.stark_parts.specs.ConstraintBound.{greatest_bound}
use Rattle.stark_parts.specs.Sizing.{constraint_degree, quotient_multiple}
use Rattle.stark_security.specs.DegreeBound.{alpha_bound, zeta_bound}
use Rattle.stark_security.specs.ErrorBound.{IsErrorBound}
use Rattle.stark_support.specs.Logarithm.{IsCeilingOfLog}

small : (d top : ℕ) → 1 ≤ top → max (min d (top - 1)) 2 - 1 ≤ top
small d top h = omega arith

pub small_multiple : (d : ℕ) → quotient_multiple d 0 ≤ 2 ^ 64
small_multiple d = small (d + 0) (2 ^ 64) (omega arith)

large : (h : ℕ) → 63 < h → 2 ^ 64 ≤ 2 ^ h
large h w = pow_mono {i = 64} {j = h} (omega arith)

pub no_bound : {F : Type 0} (cs : List (Constraint F)) (hint : Option ℕ) (h log : ℕ) → 63 < h → IsCeilingOfLog log (quotient_multiple (constraint_degree 0 cs hint) 0) → IsErrorBound cs hint h 0 None
no_bound cs hint h log w sized =
    let chunks = 2 ^ (log + 0) in
    let n = 2 ^ (h - 0) in
    let z = zeta_bound (2 ^ h) n chunks cs in
    let rows : n ≡ 2 ^ h = ap (λ k. 2 ^ k) (let e : h - 0 ≡ h = omega arith in e) in
    let many : 2 ^ 64 ≤ n = subst (λ k. 2 ^ 64 ≤ k) (sym rows) (large h w) in
    let all : 2 ^ 64 ≤ z = above (2 ^ 64) (greatest_bound (2 ^ h) n cs) n ((chunks - 1) * n) (2 ^ h - 1) many in
    record {
      chunks = chunks;
      sized = record { log = log; sized = sized; number = refl };
      exact = sym (ap (λ b. if b then Some (alpha_bound cs, z) else None) (le-ltb z (2 ^ 64) all));
    }
  where
    above : (top g n more rest : ℕ) → top ≤ n → top ≤ max g (n + more + rest)
    above top g n more rest h = omega arith

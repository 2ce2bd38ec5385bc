-- Rows that begin again.
use Rattle.std.specs.Prelude.{◌≡◌, ℕ, ◌+◌, ◌*◌, ◌/◌, ◌%◌, List, slice_get}
use Rattle.std.proofs.Common.{ap, ◌∙◌, arith}
use Rattle.std.proofs.Math.Nat.{add-mul-mod_self_right, mod-add-div'}
use Rattle.stark_support.specs.PeriodicTable.{table_at}

pub begins_again : {F : Type 0} (values : List F) (width period m k r c : ℕ) → m ≡ k * period → table_at values width period (r + m) c ≡ table_at values width period r c
begins_again values width period m k r c e = ap (λ row. slice_get values (row * width + c)) (ap (λ (n : ℕ). (r + n) % period) e ∙ add-mul-mod_self_right r k period)

pub divided : (n m : ℕ) → n % m ≡ 0 → n / m * m ≡ n
divided n m h = omega (arith, mod-add-div' n m)

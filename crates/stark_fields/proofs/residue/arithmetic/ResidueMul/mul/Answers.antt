use Rattle.std.proofs.Common.{◌*◌, ◌<◌, ◌≤◌, ℕ, arith}
use Rattle.std.proofs.lemmas.Nat.{mul-le}
use Rattle.stark_fields.proofs.residue.arithmetic.ResidueMul.mul.Goals as goal

short_product : (a b p : ℕ) → a < p → b < p → p < 65536 → a * b < 4294967296
short_product a b p first second short =
    let below : a * b ≤ 65535 * 65535 = mul-le a b 65535 65535 (omega arith) (omega arith) in
    omega (arith, below)

pub overflow_mul-self : goal.overflow_mul-self
overflow_mul-self g c =
    let fits = short_product c.args.self.value c.args.other.value g.M.Modulus.MODULUS c.args.self.in_range c.args.other.in_range
    (omega (arith, c.if-MODULUS-lt65536.true, c.MODULUS.ensures)) in
    omega (arith, fits)

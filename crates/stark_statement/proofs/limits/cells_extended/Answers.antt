use Rattle.std.proofs.Common.{◌≡◌, ◌∙◌, ◌<◌, ◌-◌, ◌*◌, ◌^◌, ◌%◌, ℕ, nat_lt, true, false, ap, refl, arith}
use Rattle.std.proofs.lemmas.Bool.{le-ltb, lt-ltb}
use Rattle.std.proofs.lemmas.Nat.{pow_below}
use Rattle.std.proofs.Math.Nat.{mod-eq_of_lt, one-mul, sub-le}
use Rattle.stark_statement.specs.Limits.{default_limits}
use Rattle.stark_statement.proofs.limits.cells_extended.Goals as goal

pub returns-then-log_blowup-gt24 : goal.returns-then-log_blowup-gt24
returns-then-log_blowup-gt24 c = let past : nat_lt 24 c.args.log_blowup ≡ true = lt-ltb 24 c.args.log_blowup c.if-log_blowup-gt24.true in rw past refl

-- So few bits are shifted that none is lost.
whole : (b : ℕ) → (1 * 2 ^ (24 - b)) % 18446744073709551616 ≡ 2 ^ (24 - b)
whole b = let low : 24 - b < 64 = omega (arith, sub-le 24 b) in
    let one : 1 * 2 ^ (24 - b) ≡ 2 ^ (24 - b) = one-mul (2 ^ (24 - b)) in
    rw one (mod-eq_of_lt (pow_below (24 - b) 64 low))

pub returns : goal.returns
returns c = let under : nat_lt 24 c.args.log_blowup ≡ false = le-ltb 24 c.args.log_blowup c.if-log_blowup-gt24.false in
    let cells : c.default.result.cells ≡ default_limits.cells = ap (λ l. l.cells) c.default.ensures in
    let kept : (1 * 2 ^ (24 - c.args.log_blowup)) % 18446744073709551616 ≡ 2 ^ (24 - c.args.log_blowup) = whole c.args.log_blowup in
    c.min.ensures ∙ rw under (rw kept (rw cells refl))

use Rattle.std.proofs.Common.{ℕ, ◌≤◌, ◌<◌, ◌*◌, ◌^◌, ap, arith, refl}
use Rattle.std.proofs.Math.Pow.{pow_mono}
use Rattle.std.proofs.lemmas.Nat.{pow_pos}
use Rattle.stark_machine.proofs.Filling.{none_fill, nothing_fills}
use Rattle.stark_machine.proofs.program.copies_to_fill.Goals as goal

pub overflow_mul-needed : goal.overflow_mul-needed
overflow_mul-needed c =
    let few : 2 ^ c.args.log_rows ≤ 2 ^ 59 = pow_mono c.requires in
    omega (arith, few, c.power_of_two-needed.ensures)

pub returns-then-numbers-eq0-clause-refused : goal.returns-then-numbers-eq0-clause-refused
returns-then-numbers-eq0-clause-refused c =
    let some : 0 < 2 ^ c.args.log_rows * 14 = omega (arith, pow_pos c.args.log_rows) in (refl, nothing_fills (2 ^ c.args.log_rows * 14) c.args.numbers c.if-numbers-eq0.true some)

pub returns-then-needed-numbers-ne0-clause-refused : goal.returns-then-needed-numbers-ne0-clause-refused
returns-then-needed-numbers-ne0-clause-refused c =
    (refl, none_fill _ (2 ^ c.args.log_rows * 14) c.args.numbers (ap (λ (k : ℕ). k * 14) c.power_of_two-needed.ensures) c.if-needed-numbers-ne0.true)

use Rattle.std.proofs.Common.{◌≡◌, ◌∙◌, ◌*◌, ◌%◌, ◌^◌, ap, arith}
use Rattle.std.proofs.lemmas.Nat.{one_shl}
use Rattle.stark_dft.specs.ColumnFacts.{same_rows}
use Rattle.stark_dft.proofs.transform.evaluate_rows.Goals as goal

pub evaluated-requires-clause-size : goal.evaluated-requires-clause-size
evaluated-requires-clause-size g c =
    let bounded = g.met.F.TwoAdicField.two_adic.bounded in
    let whole : 1 * 2 ^ c.args.log_size % 2 ^ 64 ≡ 2 ^ c.args.log_size = one_shl c.args.log_size 64 (omega (arith, bounded, c.requires.within)) in
    c.in_ok-whole.ensures.number ∙ ap (λ n. c.args.width * n) whole

pub returns : goal.returns
returns g c =
    same_rows g.F.Field.ring g.F.TwoAdicField.root (record { shift = c.args.shift; log_size = c.args.log_size }) c.args.width c.in_ok-whole.whole.items c.args.coefficients.now c.in_ok-values.values.items
    c.in_ok-whole.ensures.same c.in_ok-values.ensures

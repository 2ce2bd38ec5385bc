use Rattle.std.proofs.Common.{◌≡◌, ℕ, ◌-◌, ◌%◌, ◌*◌, ◌<◌, ◌≤◌, ap, sym, ◌∙◌, arith}
use Rattle.std.proofs.Math.Nat.{mod-eq_of_lt, add-mod_left}
use Rattle.stark_fields.specs.Residues.{same_value}
use Rattle.stark_fields.proofs.residue.Residue.of_sum.Goals as goal
use Rattle.stark_fields.proofs.residue.Residue.of_sum.Goals.{then-number-MODULUS, else-number-MODULUS}

once : (n p : ℕ) → p ≤ n → n < 2 * p → n - p ≡ n % p
once n p h below =
    let rest : n - p < p = omega (arith, h, below) in
    sym (mod-eq_of_lt rest) ∙ sym (add-mod_left p (n - p)) ∙ ap (λ k. k % p) (omega (arith, h))

pub returns : goal.returns
returns g c = same_value _ _ (elim c.if-number-MODULUS.branch [
  | then-number-MODULUS w ↦ w.value-is ∙ sym (mod-eq_of_lt (omega (arith, w.if-number-MODULUS.true, c.MODULUS.ensures)))
  | else-number-MODULUS w ↦ w.value-is ∙ ap (λ p. c.args.number - p) w.MODULUS-else-number-MODULUS.ensures
      ∙ once c.args.number g.M.Modulus.MODULUS (omega (arith, w.if-number-MODULUS.false, c.MODULUS.ensures)) c.requires
])

use Rattle.std.proofs.Common.{◌+◌, ◌-◌, ◌%◌, ap, sym, ◌∙◌}
use Rattle.std.proofs.Math.Nat.{add-mod-mod}
use Rattle.stark_fields.specs.Residues.{same_value}
use Rattle.stark_fields.proofs.residue.arithmetic.ResidueSub.sub.Goals as goal

pub returns : goal.returns
returns g c = c.of_sum.ensures ∙ same_value _ _ (ap (λ p. (c.args.self.value + (p - c.args.other.value)) % g.M.Modulus.MODULUS) c.MODULUS.ensures ∙ sym (add-mod-mod c.args.self.value (g.M.Modulus.MODULUS - c.args.other.value) g.M.Modulus.MODULUS))

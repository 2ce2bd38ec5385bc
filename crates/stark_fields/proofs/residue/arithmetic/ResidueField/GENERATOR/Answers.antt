use Rattle.std.proofs.Common.{sym, ◌∙◌}
use Rattle.std.proofs.Math.Nat.{mod-eq_of_lt}
use Rattle.stark_fields.specs.Residues.{same_value}
use Rattle.stark_fields.proofs.residue.arithmetic.ResidueField.GENERATOR.Goals as goal

pub returns : goal.returns
returns g c = same_value _ _ (c.GENERATOR.ensures ∙ sym (mod-eq_of_lt g.M.Modulus.prime.generator_below))

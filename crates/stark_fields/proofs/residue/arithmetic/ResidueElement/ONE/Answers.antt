use Rattle.std.proofs.Common.{sym}
use Rattle.std.proofs.Math.Nat.{mod-eq_of_lt}
use Rattle.stark_fields.specs.Residues.{same_value, above_one}
use Rattle.stark_fields.proofs.residue.arithmetic.ResidueElement.ONE.Goals as goal

pub returns : goal.returns
returns g c = same_value _ _ (sym (mod-eq_of_lt (above_one g.M.Modulus)))

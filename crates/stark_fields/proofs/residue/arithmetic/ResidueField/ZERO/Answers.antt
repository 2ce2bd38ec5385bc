use Rattle.std.proofs.Common.{sym}
use Rattle.std.proofs.Math.Nat.{zero-mod}
use Rattle.stark_fields.specs.Residues.{same_value}
use Rattle.stark_fields.proofs.residue.arithmetic.ResidueField.ZERO.Goals as goal

pub returns : goal.returns
returns g c = same_value _ _ (sym (zero-mod g.M.Modulus.MODULUS))

use Rattle.std.proofs.Common.{sym}
use Rattle.std.proofs.Math.Nat.{mod-eq_of_lt}
use Rattle.stark_fields.specs.Residues.{same_value}
use Rattle.stark_fields.proofs.residue.Residue.of_reduced.Goals as goal

pub returns : goal.returns
returns g c = same_value _ _ (sym (mod-eq_of_lt c.requires))

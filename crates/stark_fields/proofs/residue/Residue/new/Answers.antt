use Rattle.std.proofs.Common.{◌%◌, ap}
use Rattle.stark_fields.specs.Residues.{same_value}
use Rattle.stark_fields.proofs.residue.Residue.new.Goals as goal

pub returns : goal.returns
returns g c = same_value _ _ (ap (λ p. c.args.number % p) c.MODULUS.ensures)

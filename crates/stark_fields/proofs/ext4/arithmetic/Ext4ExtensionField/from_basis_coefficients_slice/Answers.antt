use Rattle.std.proofs.Common.{arith, rules}
use Rattle.std.proofs.lemmas.Grind.{common_steps}
use Rattle.stark_fields.proofs.ext4.arithmetic.Ext4ExtensionField.from_basis_coefficients_slice.Goals as goal

pub returns-in-len4 : goal.returns-in-len4
returns-in-len4 g c = grind (arith, common_steps)

pub returns-in_default : goal.returns-in_default
returns-in_default g c = search rules

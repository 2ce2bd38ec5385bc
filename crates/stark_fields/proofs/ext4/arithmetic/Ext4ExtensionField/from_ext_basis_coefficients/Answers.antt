use Rattle.std.proofs.Common.{rules}
use Rattle.stark_fields.proofs.ext4.arithmetic.Ext4ExtensionField.from_ext_basis_coefficients.Goals as goal

pub returns-in-len4 : goal.returns-in-len4
returns-in-len4 g c = search rules

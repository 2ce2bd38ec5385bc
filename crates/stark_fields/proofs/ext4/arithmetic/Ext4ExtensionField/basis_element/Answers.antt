use Rattle.std.proofs.Common.{rules}
use Rattle.stark_fields.proofs.ext4.arithmetic.Ext4ExtensionField.basis_element.Goals as goal

pub returns-in-0 : goal.returns-in-0
returns-in-0 g c = search rules

pub returns-in-1 : goal.returns-in-1
returns-in-1 g c = search rules

pub returns-in-2 : goal.returns-in-2
returns-in-2 g c = search rules

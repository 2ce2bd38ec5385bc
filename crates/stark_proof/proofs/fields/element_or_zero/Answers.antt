use Rattle.std.proofs.Common.{rules}
use Rattle.stark_proof.proofs.fields.element_or_zero.Goals as goal

pub returns-in-Some : goal.returns-in-Some
returns-in-Some g c = search rules

pub returns-in-None : goal.returns-in-None
returns-in-None g c = search rules

pub returns-in_err-element : goal.returns-in_err-element
returns-in_err-element g c = search rules

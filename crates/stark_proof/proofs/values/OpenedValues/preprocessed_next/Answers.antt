use Rattle.std.proofs.Common.{rules}
use Rattle.stark_proof.proofs.values.OpenedValues.preprocessed_next.Goals as goal

pub returns-in-None : goal.returns-in-None
returns-in-None g c = search rules

pub returns-in-Some-next : goal.returns-in-Some-next
returns-in-Some-next g c = search rules

pub returns-in-None-next : goal.returns-in-None-next
returns-in-None-next g c = search rules

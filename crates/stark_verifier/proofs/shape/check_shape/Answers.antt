use Rattle.std.proofs.Common.{rules}
use Rattle.stark_verifier.proofs.shape.check_shape.Goals as goal

pub returns-clause-clear : goal.returns-clause-clear
returns-clause-clear g c = search rules

pub returns-clause-shaped : goal.returns-clause-shaped
returns-clause-shaped g c = record {
  rows = search rules;
  opened = search rules;
  domains = search rules;
  quotient = search rules;
  extended = search rules;
}

pub returns-clause-fault : goal.returns-clause-fault
returns-clause-fault g c = search rules

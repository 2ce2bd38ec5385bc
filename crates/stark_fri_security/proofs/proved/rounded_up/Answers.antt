use Rattle.stark_fri_security.proofs.CountSteps.{itself_in_units, rounded_positive}
use Rattle.stark_fri_security.proofs.proved.rounded_up.Goals as goal

pub returns-clause-within : goal.returns-clause-within
returns-clause-within c = itself_in_units c.args.parts c.args.unit c.requires.some

pub returns-clause-some : goal.returns-clause-some
returns-clause-some c = λ positive. rounded_positive c.args.parts c.args.unit c.requires.some positive

use Rattle.stark_fri_security.proofs.CountSteps.{word_power}
use Rattle.stark_fri_security.proofs.proved.two_power.Goals as goal

pub returns-clause-within : goal.returns-clause-within
returns-clause-within c = word_power c.args.bits c.requires

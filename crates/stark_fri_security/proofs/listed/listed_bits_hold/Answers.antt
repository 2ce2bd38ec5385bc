use Rattle.stark_fri_security.proofs.CountSteps.{listed_bits_are_proved}
use Rattle.stark_fri_security.proofs.listed.listed_bits_hold.Goals as goal

pub returns : goal.returns
returns c = listed_bits_are_proved

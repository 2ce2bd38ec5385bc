use Rattle.stark_fri_security.proofs.CountSteps.{bits_are_proved}
use Rattle.stark_fri_security.proofs.proved.proved_bits_hold.Goals as goal

pub returns : goal.returns
returns c = bits_are_proved

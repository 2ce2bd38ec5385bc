use Rattle.std.proofs.Common.{arith}
use Rattle.stark_protocol.proofs.Carried.{on_ok}
use Rattle.fri_tests.proofs.checked.prove_over_baby_bear.Goals as goal

pub prove_checked-requires-clause-fits : goal.prove_checked-requires-clause-fits
prove_checked-requires-clause-fits g c = record {
  columns = c.requires.columns;
  width = c.requires.width;
  public_values = c.requires.public_values;
  there = c.requires.there;
  stands = c.requires.stands;
}

-- FRI refuses no true opening, and commits to traces of any height.
pub returns-clause-accepted : goal.returns-clause-accepted
returns-clause-accepted g c = on_ok _ _ c.prove_checked.result (λ proof accepted sizable. accepted c.args.log_height (record { rows = c.requires.height; least = omega arith; complete = tt }) sizable) c.prove_checked.ensures.accepted

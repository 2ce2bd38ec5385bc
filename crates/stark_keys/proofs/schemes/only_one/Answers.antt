use Rattle.std.proofs.Common.{◌≤◌}
use Rattle.std.specs.Coded.{le_prop}
use mathlib.Core.HLevel.{is_prop→PathP}
use Rattle.stark_keys.proofs.schemes.only_one.Goals as goal

pub returns : goal.returns
returns g c = λ other same i. record {
  parameters = same i;
  field = record {};
  hash = record {};
  within = is_prop→PathP (λ j. (same j).log_blowup ≤ g.F.TwoAdicField.TWO_ADICITY) (λ j. le_prop) other.within c.args.pcs.now.within i;
}

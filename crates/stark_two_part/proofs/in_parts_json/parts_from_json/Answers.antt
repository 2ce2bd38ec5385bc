use Rattle.std.proofs.Common.{rules}
use Rattle.stark_two_part.specs.PartsJson.{none_at_all, too_many}
use Rattle.stark_two_part.proofs.in_parts_json.parts_from_json.Goals.{in_default-via-then-values-lt1, in_default-via-else-values-lt1+else-values-lt2+else-values-lt3}
use Rattle.stark_two_part.proofs.in_parts_json.parts_from_json.Goals as goal

pub returns-in_default : goal.returns-in_default
returns-in_default g c = elim c.in_default.branch [
  | in_default-via-then-values-lt1 w ↦ search (rules, none_at_all)
  | in_default-via-else-values-lt1+else-values-lt2+else-values-lt3 w ↦ search (rules, too_many)
]

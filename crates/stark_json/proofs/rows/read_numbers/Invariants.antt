use Rattle.std.proofs.Common.{◌≡◌, ◌++◌, ℕ, List, length}
use Rattle.stark_json.specs.Apart.{number_data}
use Rattle.stark_json.proofs.SoFar.{ItemsSoFar}
use Rattle.stark_json.proofs.rows.read_numbers.Given as goal

abbrev pub invariant-items : goal.invariant-items
invariant-items l = (row : List ℕ) × (l.numbers.items ≡ l.initial.numbers.items ++ row) × ItemsSoFar number_data l.depth l.initial.reader l.reader row

abbrev pub decreases-items : goal.decreases-items
decreases-items l = length l.reader

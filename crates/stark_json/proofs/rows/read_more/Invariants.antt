use Rattle.std.proofs.Common.{ℕ, List, length}
use Rattle.stark_json.specs.Apart.{row_data}
use Rattle.stark_json.proofs.Parted.{AreParted}
use Rattle.stark_json.proofs.SoFar.{ItemsSoFar}
use Rattle.stark_json.proofs.rows.read_more.Given as goal

abbrev pub invariant-items : goal.invariant-items
invariant-items l = (rows : List (List ℕ)) × AreParted l.numbers.items l.lengths.items rows × ItemsSoFar row_data l.depth l.initial.reader l.reader rows

abbrev pub decreases-items : goal.decreases-items
decreases-items l = length l.reader

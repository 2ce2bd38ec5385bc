use Rattle.std.proofs.Common.{◌≡◌, ◌++◌, List, drop}
use Rattle.std.specs.Borrow.{Bor}
use Rattle.std.specs.List.{flat_map}
use Rattle.stark_folding.specs.Reduce.{Seen}
use Rattle.stark_support.specs.Claims.{point_view}
use Rattle.stark_fri.specs.Parts.{FriFields}
use Rattle.stark_fri.specs.Query.{seen_at_point}
use Rattle.stark_fri.proofs.Members.{fields_by}
use Rattle.stark_fri.proofs.seen.push_matrix.Given as goal

abbrev pub fields_of : (g : goal.Over) → FriFields g.row.F.Denot g.row.EF.Denot
fields_of g = fields_by g.F.TwoAdicField g.F.Field g.F.PrimeField64 g.EF.Field g.EF.ExtensionField

abbrev pub seen_here : (g : goal.Over) → List g.row.F.Denot → g.row.EF.Denot × Bor (List g.row.EF.Denot) → List (Seen g.row.EF.Denot)
seen_here g row p = seen_at_point (fields_of g) row (point_view p)

abbrev pub invariant-loop-point : goal.invariant-loop-point
invariant-loop-point g l = l.seen.items ++ flat_map (seen_here g l.row) (drop l.point-index l.points) ≡ l.fn.seen.items ++ flat_map (seen_here g l.row) l.points

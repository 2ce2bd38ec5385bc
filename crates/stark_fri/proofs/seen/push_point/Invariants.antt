use Rattle.std.proofs.Common.{◌≡◌, ◌++◌, drop, map}
use Rattle.std.specs.List.{zip}
use Rattle.stark_support.specs.Claims.{point_view}
use Rattle.stark_fri.specs.Parts.{FriFields}
use Rattle.stark_fri.specs.Query.{seen_at, seen_at_point}
use Rattle.stark_fri.proofs.Members.{fields_by}
use Rattle.stark_fri.proofs.seen.push_point.Given as goal

abbrev pub fields_of : (g : goal.Over) → FriFields g.row.F.Denot g.row.EF.Denot
fields_of g = fields_by g.F.TwoAdicField g.F.Field g.F.PrimeField64 g.EF.Field g.EF.ExtensionField

abbrev pub invariant-loop-c : goal.invariant-loop-c
invariant-loop-c g l =
    let fields = fields_of g in
    let p = point_view l.point in
    l.seen.items ++ map (seen_at fields p.0) (drop l.c (zip l.row p.1)) ≡ l.fn.seen.items ++ seen_at_point fields l.row p

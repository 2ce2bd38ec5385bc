use Rattle.std.proofs.Common.{◌≡◌, ◌++◌, drop, map}
use Rattle.std.specs.List.{flat_map, zip}
use Rattle.stark_fri.specs.Claims.{round_seen}
use Rattle.stark_fri.specs.Parts.{FriFields}
use Rattle.stark_fri.specs.Query.{seen_in_round}
use Rattle.stark_fri.proofs.Members.{fields_by}
use Rattle.stark_fri.proofs.seen.seen_of.Given as goal

abbrev pub fields_of : (g : goal.Over) → FriFields g.row.D-Val.Denot g.row.EF.Denot
fields_of g = fields_by g.D.Val.TwoAdicField g.D.Val.Field g.D.Val.PrimeField64 g.EF.Field g.EF.ExtensionField

abbrev pub invariant-loop-r : goal.invariant-loop-r
invariant-loop-r g l =
    let seen = seen_in_round (fields_of g) in
    let both = zip (map (round_seen g.D.PolynomialSpace.coset_of) l.claims) l.inputs in
    l.seen.items ++ flat_map seen (drop l.r both) ≡ flat_map seen both

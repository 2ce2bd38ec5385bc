use Rattle.std.proofs.Common.{◌≡◌, ◌++◌, drop, map}
use Rattle.std.specs.List.{flat_map, zip}
use Rattle.stark_merkle.specs.Tree.{items_of}
use Rattle.stark_fri.specs.Claims.{matrix_seen}
use Rattle.stark_fri.specs.Parts.{FriFields}
use Rattle.stark_fri.specs.Query.{seen_in_matrix}
use Rattle.stark_fri.proofs.Members.{fields_by}
use Rattle.stark_fri.proofs.seen.push_round.Given as goal

abbrev pub fields_of : (g : goal.Over) → FriFields g.row.D-Val.Denot g.row.EF.Denot
fields_of g = fields_by g.D.Val.TwoAdicField g.D.Val.Field g.D.Val.PrimeField64 g.EF.Field g.EF.ExtensionField

abbrev pub invariant-loop-m : goal.invariant-loop-m
invariant-loop-m g l =
    let seen = seen_in_matrix (fields_of g) in
    let both = zip (map (matrix_seen g.D.PolynomialSpace.coset_of) l.matrices) (map items_of l.rows) in
    l.seen.items ++ flat_map seen (drop l.m both) ≡ l.fn.seen.items ++ flat_map seen both

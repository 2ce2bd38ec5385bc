use Rattle.std.proofs.Common.{map}
use Rattle.std.specs.List.{zip}
use Rattle.stark_support.proofs.Loops.{Left, Passed}
use Rattle.stark_fri.specs.Claims.{round_seen}
use Rattle.stark_fri.specs.Parts.{FriFields}
use Rattle.stark_fri.specs.Query.{InputLeads}
use Rattle.stark_fri.proofs.Members.{fields_by}
use Rattle.stark_fri.proofs.query.first_input_fault.Given as goal

abbrev pub fields_of : (g : goal.Over) → FriFields g.row.D-Val.Denot g.row.EF.Denot
fields_of g = fields_by g.D.Val.TwoAdicField g.D.Val.Field g.D.Val.PrimeField64 g.EF.Field g.EF.ExtensionField

abbrev pub invariant-loop-r : goal.invariant-loop-r
invariant-loop-r g l =
    let leads = InputLeads (fields_of g) g.H.TreeHash.digests l.bits l.place in
    let both = zip (map (round_seen g.D.PolynomialSpace.coset_of) l.claims) l.inputs in
    Left (λ v. v) leads both l.r × Passed (λ v. v) leads both l.r

use Rattle.std.proofs.Common.{map}
use Rattle.std.specs.List.{zip}
use Rattle.stark_fri.specs.Claims.{round_seen}
use Rattle.stark_fri.specs.Eights.{InBothEight}
use Rattle.stark_fri.specs.Parts.{FriFields}
use Rattle.stark_fri.specs.Query.{InputLeads}
use Rattle.stark_fri.proofs.Members.{fields_by}
use Rattle.stark_fri.proofs.ListSteps.{HoldsSoFar}
use Rattle.stark_fri.proofs.eights.eight_inputs_lead.Given as goal

abbrev pub fields_of : (g : goal.Over) → FriFields g.row.D-Val.Denot g.row.EF.Denot
fields_of g = fields_by g.D.Val.TwoAdicField g.D.Val.Field g.D.Val.PrimeField64 g.EF.Field g.EF.ExtensionField

abbrev pub invariant-loop-r : goal.invariant-loop-r
invariant-loop-r g l =
    let rounds = map (round_seen g.D.PolynomialSpace.coset_of) l.claims in
    InBothEight (λ place query. HoldsSoFar (InputLeads (fields_of g) g.H.TreeHash.digests l.bits place) (zip rounds query.inputs) l.r) l.places l.queries

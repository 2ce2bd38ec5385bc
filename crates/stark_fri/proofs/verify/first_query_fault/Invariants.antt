use Rattle.std.specs.List.{zip}
use Rattle.stark_fri.specs.Parts.{FriFields}
use Rattle.stark_fri.specs.Query.{QueryFails, QueryHolds}
use Rattle.stark_fri.specs.Replayed.{target_of}
use Rattle.stark_fri.specs.declared.error.QueryFault.{QueryFault}
use Rattle.stark_fri.proofs.Members.{fields_by}
use Rattle.stark_fri.proofs.ListSteps.{HoldsSoFar, PassedWith}
use Rattle.stark_fri.proofs.verify.first_query_fault.Given as goal

abbrev pub fields_of : (g : goal.Over) → FriFields g.row.D-Val.Denot g.row.EF.Denot
fields_of g = fields_by g.D.Val.TwoAdicField g.D.Val.Field g.D.Val.PrimeField64 g.EF.Field g.EF.ExtensionField

abbrev pub invariant-loop-i : goal.invariant-loop-i
invariant-loop-i g l =
    let fields = fields_of g in
    let hash = g.H.TreeHash.digests in
    let target = target_of (fields_of g) g.D.PolynomialSpace.coset_of l.replayed in
    let queries = zip l.replayed.drawn.now.places.items l.replayed.proof.now.queries in record {
      holds : HoldsSoFar (QueryHolds fields hash target) queries l.i;
      passed : (fault : QueryFault) → PassedWith (QueryHolds fields hash target) (QueryFails fields hash target fault) queries l.i;
    }

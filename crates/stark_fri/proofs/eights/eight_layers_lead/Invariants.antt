use Rattle.std.proofs.Common.{map}
use Rattle.stark_fri.specs.Eights.{InBothEight}
use Rattle.stark_fri.specs.Parts.{FriFields}
use Rattle.stark_fri.specs.Query.{PairLeads, phase_root}
use Rattle.stark_fri.proofs.Members.{fields_by}
use Rattle.stark_fri.proofs.FoldSteps.{OpeningsSoFar}
use Rattle.stark_fri.proofs.eights.eight_layers_lead.Given as goal

abbrev pub fields_of : (g : goal.Over) → FriFields g.row.F.Denot g.row.EF.Denot
fields_of g = fields_by g.F.TwoAdicField g.F.Field g.F.PrimeField64 g.EF.Field g.EF.ExtensionField

abbrev pub invariant-loop-i : goal.invariant-loop-i
invariant-loop-i g l =
    let trees = map phase_root l.phases in
    InBothEight (λ query walk. OpeningsSoFar (fields_of g) (PairLeads g.H.TreeHash.digests) l.bits trees query.layers walk.pairs.items l.i) l.queries l.walks

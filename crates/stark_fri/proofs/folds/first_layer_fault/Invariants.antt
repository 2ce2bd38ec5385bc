use Rattle.std.proofs.Common.{map}
use Rattle.stark_fri.specs.Parts.{FriFields}
use Rattle.stark_fri.specs.Query.{PairLeads, phase_root}
use Rattle.stark_fri.proofs.Members.{fields_by}
use Rattle.stark_fri.proofs.FoldSteps.{OpeningsPassed, OpeningsSoFar}
use Rattle.stark_fri.proofs.folds.first_layer_fault.Given as goal

abbrev pub fields_of : (g : goal.Over) → FriFields g.row.F.Denot g.row.EF.Denot
fields_of g = fields_by g.F.TwoAdicField g.F.Field g.F.PrimeField64 g.EF.Field g.EF.ExtensionField

abbrev pub invariant-loop-i : goal.invariant-loop-i
invariant-loop-i g l =
    let fields = fields_of g in
    let leads = PairLeads g.H.TreeHash.digests in
    let trees = map phase_root l.phases in
    OpeningsSoFar fields leads l.bits trees l.layers l.pairs l.i × OpeningsPassed fields leads l.bits trees l.layers l.pairs l.i

use Rattle.stark_fri.specs.Parts.{SpongeCalls}
use Rattle.stark_fri.proofs.Members.{sponge_by}
use Rattle.stark_fri.proofs.PlaySteps.{PlaysSoFar}
use Rattle.stark_fri.proofs.phases.play_phases.Given as goal

abbrev pub sponge_of : (g : goal.Over) → SpongeCalls g.row.C.Denot g.row.F.Denot g.row.EF.Denot
sponge_of g = sponge_by g.F.Field g.F.PrimeField64 g.EF.ExtensionField g.C.CanObserve-1 g.C.CanObserve-2 g.C.CanSample g.C.CanSampleBits g.C.GrindingChallenger

abbrev pub invariant-loop-i : goal.invariant-loop-i
invariant-loop-i g l = PlaysSoFar (sponge_of g) l.bits l.fn.challenger l.phases l.i l.challenger l.betas.items

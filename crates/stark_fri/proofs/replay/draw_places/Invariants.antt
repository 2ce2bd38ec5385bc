use Rattle.std.proofs.Common.{◌≡◌, ◌++◌, ◌-◌}
use Rattle.stark_support.specs.Sponge.{drawn_in_turn}
use Rattle.stark_fri.specs.Parts.{SpongeCalls}
use Rattle.stark_fri.specs.Transcript.{index_of, places_from}
use Rattle.stark_fri.proofs.Members.{sponge_by}
use Rattle.stark_fri.proofs.replay.draw_places.Given as goal

abbrev pub sponge_of : (g : goal.Over) → SpongeCalls g.row.C.Denot g.row.F.Denot g.row.EF.Denot
sponge_of g = sponge_by g.F.Field g.F.PrimeField64 g.EF.ExtensionField g.C.CanObserve-1 g.C.CanObserve-2 g.C.CanSample g.C.CanSampleBits g.C.GrindingChallenger

abbrev pub invariant-loop-query : goal.invariant-loop-query
invariant-loop-query g l =
    let sponge = sponge_of g in
    l.places.items ++ drawn_in_turn (index_of sponge l.bits) (λ s. sponge.after_bits s l.bits) (l.count - l._query) l.challenger ≡ places_from sponge l.bits l.count l.fn.challenger

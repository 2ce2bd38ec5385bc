use Rattle.std.proofs.Common.{◌≡◌, drop, map}
use Rattle.stark_support.specs.Sponge.{observed_all}
use Rattle.stark_fri.specs.Claims.{matrix_seen, round_seen}
use Rattle.stark_fri.specs.Parts.{ObservingCalls}
use Rattle.stark_fri.specs.Transcript.{observed_matrix, observed_round}
use Rattle.stark_fri.proofs.Members.{observing_by}
use Rattle.stark_fri.proofs.transcript.observe_round.Given as goal

abbrev pub calls_of : (g : goal.Over) → ObservingCalls g.row.C.Denot g.row.D-Val.Denot g.row.EF.Denot
calls_of g = observing_by g.D.Val.PrimeField64 g.EF.ExtensionField g.C.CanObserve-1 g.C.CanObserve-2

abbrev pub invariant-loop-matrix : goal.invariant-loop-matrix
invariant-loop-matrix g l =
    observed_all (observed_matrix (calls_of g)) (map (matrix_seen g.D.PolynomialSpace.coset_of) (drop l.matrix-index l.matrix-items)) l.challenger
    ≡ observed_round (calls_of g) l.fn.challenger (round_seen g.D.PolynomialSpace.coset_of l.fn.claim)

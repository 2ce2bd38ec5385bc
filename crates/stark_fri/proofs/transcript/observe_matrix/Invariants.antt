use Rattle.std.proofs.Common.{◌≡◌, drop, map}
use Rattle.stark_support.specs.Claims.{point_view}
use Rattle.stark_support.specs.Sponge.{observed_all}
use Rattle.stark_fri.specs.Claims.{matrix_seen}
use Rattle.stark_fri.specs.Parts.{ObservingCalls}
use Rattle.stark_fri.specs.Transcript.{observed_matrix, observed_point}
use Rattle.stark_fri.proofs.Members.{observing_by}
use Rattle.stark_fri.proofs.transcript.observe_matrix.Given as goal

abbrev pub calls_of : (g : goal.Over) → ObservingCalls g.row.C.Denot g.row.D-Val.Denot g.row.EF.Denot
calls_of g = observing_by g.D.Val.PrimeField64 g.EF.ExtensionField g.C.CanObserve-1 g.C.CanObserve-2

abbrev pub invariant-loop-point : goal.invariant-loop-point
invariant-loop-point g l =
    observed_all (observed_point (calls_of g)) (map point_view (drop l.point-index l.point-items)) l.challenger
    ≡ observed_matrix (calls_of g) l.fn.challenger (matrix_seen g.D.PolynomialSpace.coset_of l.fn.matrix)

use Rattle.std.proofs.Common.{◌≡◌, ◌^◌}
use Rattle.stark_support.specs.Claims.{point_view}
use Rattle.stark_support.specs.Coset.{coset_vanishing}
use Rattle.stark_support.proofs.Loops.{Left}
use Rattle.stark_fri.proofs.claims.points_are_off.Given as goal

abbrev pub invariant-loop-point : goal.invariant-loop-point
invariant-loop-point g l =
    Left point_view (λ p. coset_vanishing g.EF.Field.ring g.EF.ExtensionField.embed g.F.Field.inverse_of (2 ^ l.bits) g.F.Field.GENERATOR p.0 ≡ g.EF.Field.ring.zero → ⊥) l.points l.point-index

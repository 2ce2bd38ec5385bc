use Rattle.std.proofs.Common.{◌*◌}
use Rattle.stark_fri.specs.Parts.{FriFields}
use Rattle.stark_fri.specs.Replayed.{FirstHold}
use Rattle.stark_fri.proofs.Members.{fields_by}
use Rattle.stark_fri.proofs.eights.accepted_by_eights.Given as goal

abbrev pub fields_of : (g : goal.Over) → FriFields g.row.D-Val.Denot g.row.EF.Denot
fields_of g = fields_by g.D.Val.TwoAdicField g.D.Val.Field g.D.Val.PrimeField64 g.EF.Field g.EF.ExtensionField

abbrev pub invariant-loop-group : goal.invariant-loop-group
invariant-loop-group g l = FirstHold (fields_of g) g.D.PolynomialSpace.coset_of l.replayed g.H.TreeHash.digests (8 * l.group)

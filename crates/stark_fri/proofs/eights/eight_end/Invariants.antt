use Rattle.std.proofs.Common.{◌≡◌, ◌<◌, ℕ, slice_index_or}
use Rattle.stark_fri.specs.Eights.{EndsAt}
use Rattle.stark_fri.specs.Parts.{FriFields}
use Rattle.stark_fri.specs.declared.folds.FoldWalk.{FoldWalk}
use Rattle.stark_fri.proofs.Members.{fields_by}
use Rattle.stark_fri.proofs.eights.eight_end.Given as goal

abbrev pub fields_of : (g : goal.Over) → FriFields g.row.F.Denot g.row.EF.Denot
fields_of g = fields_by g.F.TwoAdicField g.F.Field g.F.PrimeField64 g.EF.Field g.EF.ExtensionField

abbrev pub invariant-loop-i : goal.invariant-loop-i
invariant-loop-i g l = (j : ℕ) (place : ℕ) (walk : FoldWalk g.row.EF.Denot) → j < l.i → place ≡ slice_index_or l.places j place → walk ≡ slice_index_or l.walks j walk
    → EndsAt (fields_of g) l.proof l.bits place walk

use Rattle.std.proofs.Common.{◌≡◌, ◌<◌, ℕ, length, slice_index_or}
use Rattle.stark_fri_proof.specs.Parts.{QueryProof}
use Rattle.stark_fri.specs.Parts.{FriFields}
use Rattle.stark_fri.specs.Replayed.{IsWalkIn}
use Rattle.stark_fri.specs.declared.folds.FoldWalk.{FoldWalk}
use Rattle.stark_fri.proofs.Members.{fields_by}
use Rattle.stark_fri.proofs.eights.eight_walks.Given as goal

abbrev pub fields_of : (g : goal.Over) → FriFields g.row.D-Val.Denot g.row.EF.Denot
fields_of g = fields_by g.D.Val.TwoAdicField g.D.Val.Field g.D.Val.PrimeField64 g.EF.Field g.EF.ExtensionField

abbrev pub invariant-loop-i : goal.invariant-loop-i
invariant-loop-i g l =
    record {
      count : length l.walks.items ≡ l.i;
      are : (walk : FoldWalk g.row.EF.Denot) (j : ℕ) → j < l.i → walk ≡ slice_index_or l.walks.items j walk
          → (place : ℕ) (query : QueryProof g.row.D-Val.Denot g.row.EF.Denot) → place ≡ slice_index_or l.places j place → query ≡ slice_index_or l.queries j query
          → IsWalkIn (fields_of g) g.D.PolynomialSpace.coset_of l.replayed place query walk;
    }

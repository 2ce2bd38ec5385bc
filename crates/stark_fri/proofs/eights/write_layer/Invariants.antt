use Rattle.std.proofs.Common.{◌≡◌, ◌<◌, ℕ, [], length, map, slice_index_or}
use Rattle.stark_merkle.specs.Tree.{items_of}
use Rattle.stark_fri.specs.Eights.{IsReadAt}
use Rattle.stark_fri.specs.Parts.{FriFields}
use Rattle.stark_fri.proofs.Members.{fields_by}
use Rattle.stark_fri.proofs.eights.write_layer.Given as goal

abbrev pub fields_of : (g : goal.Over) → FriFields g.row.F.Denot g.row.EF.Denot
fields_of g = fields_by g.F.TwoAdicField g.F.Field g.F.PrimeField64 g.EF.Field g.EF.ExtensionField

abbrev pub invariant-loop-i : goal.invariant-loop-i
invariant-loop-i g l = (length l.texts ≡ 8)
    × ((k : ℕ) → k < l.i
    → IsReadAt (λ walk. walk.pairs.items) (λ pair. (fields_of g).pair_bytes pair.low pair.high) l.layer l.walks k (slice_index_or (map items_of l.texts) k []))

use Rattle.std.proofs.Common.{◌∙◌, ◌∷◌, [], ap}
use Rattle.std.specs.List.{slice_get}
use Rattle.std.proofs.Math.Nat.{mod-one}
use Rattle.stark_bench.proofs.PointLists.{nothing_repeated, one_more_repeated}
use Rattle.stark_bench.proofs.coset.filled.Goals as goal

pub loop-index-init : goal.loop-index-init
loop-index-init g c = record {
  items = nothing_repeated (c.args.x ∷ []) c.in_ok-all.all.items c.in_ok-all.ensures.items;
  capacity = c.in_ok-all.ensures.exact;
}

pub loop-index-preserved : goal.loop-index-preserved
loop-index-preserved g c =
    let n = c.loop-index._index in
    record {
      items = one_more_repeated (c.args.x ∷ []) n c.loop-index.all.items c.push_reserved.new.self.items c.args.x c.loop-index.invariant.items c.push_reserved.ensures.items (ap (slice_get (c.args.x ∷ [])) (mod-one n));
      capacity = c.push_reserved.ensures.capacity ∙ c.loop-index.invariant.capacity;
    }

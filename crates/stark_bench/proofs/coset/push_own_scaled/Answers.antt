use Rattle.std.proofs.Common.{◌≡◌, ◌∙◌, ◌++◌, ◌∷◌, [], length, map, take, get_or, ap, arith, sym}
use Rattle.std.proofs.Math.Seq.{take-length}
use Rattle.std.proofs.lemmas.List.{append_assoc, get_or_append_left, map_more}
use Rattle.stark_bench.proofs.coset.push_own_scaled.Goals as goal

pub loop-index-preserved : goal.loop-index-preserved
loop-index-preserved g c =
    let ring = g.F.Field.ring in
    let scale = ring.mul c.args.factor in
    let before = c.args.all.now.items in
    let n = c.loop-index.index in
    let x = c.index.result.now in
    let so_far = map scale (take n before) in
    let element : x ≡ get_or before n x = c.index.ensures ∙ ap (λ l. get_or l n x) c.loop-index.invariant.items ∙ get_or_append_left before so_far x n (omega arith) in
    record {
      items = c.push_reserved.ensures.items ∙ ap (λ l. l ++ c.mul.result ∷ []) c.loop-index.invariant.items ∙ ap (λ p. (before ++ so_far) ++ p ∷ []) (g.met.F.Field.mul_is _ _ _ c.mul.ensures ∙ ap scale element)
          ∙ append_assoc before so_far (scale (get_or before n x) ∷ []) ∙ ap (λ l. before ++ l) (sym (map_more scale before n x (omega arith)));
      number = omega (arith, c.push_reserved.ensures.len, c.loop-index.invariant.number);
      capacity = c.push_reserved.ensures.capacity ∙ c.loop-index.invariant.capacity;
    }

pub returns-clause-items : goal.returns-clause-items
returns-clause-items g c =
    let before = c.args.all.now.items in
    let end : c.loop-index.index ≡ length before = omega arith in
    c.loop-index.invariant.items ∙ ap (λ l. before ++ map (g.F.Field.ring.mul c.args.factor) l) (ap (λ n. take n before) end ∙ take-length before)

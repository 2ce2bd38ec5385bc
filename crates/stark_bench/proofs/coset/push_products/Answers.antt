use Rattle.std.specs.Simd.Lanes.{zip2}
use Rattle.std.proofs.lemmas.Simd.{length-zip2}
use Rattle.std.proofs.Common.{◌≡◌, ◌∙◌, ◌++◌, [], ◌∷◌, length, take, ap, arith}
use Rattle.std.proofs.Math.Seq.{take-length}
use Rattle.stark_bench.proofs.HalfLists.{one_more_product}
use Rattle.stark_bench.proofs.coset.push_products.Goals as goal

pub loop-index-preserved : goal.loop-index-preserved
loop-index-preserved g c =
    let ring = g.F.Field.ring in
    let lefts = c.args.lefts.now in
    let rights = c.args.rights.now in
    let before = c.args.all.now.items in
    let n = c.loop-index.index in
    let x = c.index-lefts-index.result in
    let y = c.index-rights-index.result in
    let so_far = before ++ take n (zip2 ring.mul lefts rights) in
    record {
      items = c.push_reserved.ensures.items ∙ ap (λ l. l ++ c.mul.result ∷ []) c.loop-index.invariant.items ∙ ap (λ p. so_far ++ p ∷ []) (g.met.F.Field.mul_is _ _ _ c.mul.ensures)
          ∙ one_more_product ring lefts rights before n x y c.loop-index-test.true c.requires.number c.index-lefts-index.is c.index-rights-index.is;
      number = omega (arith, c.push_reserved.ensures.len, c.loop-index.invariant.number);
      capacity = c.push_reserved.ensures.capacity ∙ c.loop-index.invariant.capacity;
    }

pub returns-clause-items : goal.returns-clause-items
returns-clause-items g c =
    let all = zip2 g.F.Field.ring.mul c.args.lefts.now c.args.rights.now in
    let end : c.loop-index.index ≡ length all = omega (arith, length-zip2 g.F.Field.ring.mul c.args.lefts.now c.args.rights.now c.requires.number) in
    c.loop-index.invariant.items ∙ ap (λ l. c.args.all.now.items ++ l) (ap (λ n. take n all) end ∙ take-length all)

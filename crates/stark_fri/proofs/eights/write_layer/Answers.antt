use Rattle.std.proofs.Common.{◌≡◌, ◌∙◌, ◌<◌, ℕ, List, [], ap, arith, get_or, length, length-set, sym}
use Rattle.stark_merkle.specs.Tree.{items_of}
use Rattle.stark_fri.specs.Eights.{IsReadAt}
use Rattle.stark_fri.proofs.EightSteps.{mapped_more, read_here}
use Rattle.stark_fri.proofs.eights.write_layer.Invariants.{fields_of}
use Rattle.stark_fri.proofs.eights.write_layer.Goals as goal

pub loop-i-preserved : goal.loop-i-preserved
loop-i-preserved g c =
    let fields = fields_of g in
    let texts = c.loop-i.texts in
    let walks = c.args.walks.now in
    let layer = c.args.layer in
    let i = c.loop-i.i in
    let walk = c.index-walks-i.result in
    let long = c.loop-i.invariant.0 in
    let turn = c.loop-i-test.true in
    let read : ℕ → List ℕ → Type 0 = IsReadAt (λ walk. walk.pairs.items) (λ pair. fields.pair_bytes pair.low pair.high) layer walks in
    let in_pairs : layer < length walk.pairs.items = c.requires.pairs i walk turn c.index-walks-i.is in
    let is_pair : c.index-pair.result.now ≡ get_or walk.pairs.items layer c.index-pair.result.now = c.index-pair.ensures ∙ ap (λ w. get_or w.pairs.items layer c.index-pair.result.now) (sym c.index-walks-i.is) in
    let here = read_here (λ walk. walk.pairs.items) (λ pair. fields.pair_bytes pair.low pair.high) layer walks i walk c.index-pair.result.now _ (omega (arith, turn, c.requires.walks)) in_pairs
    c.index-walks-i.is is_pair c.in_ok-write_pair.ensures in (
      length-set texts i _ ∙ long,
      mapped_more items_of read texts i _ [] (omega (arith, long, turn)) c.loop-i.invariant.1 here,
    )

use Rattle.std.proofs.Common.{◌≡◌, ◌∙◌, ◌<◌, ℕ, ap, arith, get_or, length, length-set, refl, sym}
use Rattle.stark_sha256.proofs.LaneFacts.{one_more}
use Rattle.stark_fri.specs.Eights.{IsReadAt}
use Rattle.stark_fri.proofs.EightSteps.{read_here}
use Rattle.stark_fri.proofs.eights.pair_places.Goals as goal

pub loop-i-preserved : goal.loop-i-preserved
loop-i-preserved g c =
    let places = c.loop-i.places in
    let walks = c.args.walks.now in
    let layer = c.args.layer in
    let i = c.loop-i.i in
    let walk = c.index-walks-i.result in
    let long = c.loop-i.invariant.0 in
    let turn = c.loop-i-test.true in
    let read : ℕ → ℕ → Type 0 = IsReadAt (λ walk. walk.pairs.items) (λ pair. pair.place) layer walks in
    let in_pairs : layer < length walk.pairs.items = c.requires.pairs i walk turn c.index-walks-i.is in
    let is_pair : c.index.result.now ≡ get_or walk.pairs.items layer c.index.result.now = c.index.ensures ∙ ap (λ w. get_or w.pairs.items layer c.index.result.now) (sym c.index-walks-i.is) in
    let here = read_here (λ walk. walk.pairs.items) (λ pair. pair.place) layer walks i walk c.index.result.now _ (omega (arith, turn, c.requires.walks)) in_pairs
    c.index-walks-i.is is_pair refl in (
      length-set places i _ ∙ long,
      one_more read places i _ 0 (omega (arith, long, turn)) c.loop-i.invariant.1 here,
    )

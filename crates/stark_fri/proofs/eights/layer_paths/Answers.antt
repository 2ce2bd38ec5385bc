use Rattle.std.proofs.Common.{◌∙◌, ◌<◌, ℕ, List, [], ap, arith, get_or, length, length-set, sym}
use Rattle.std.specs.Borrow.{Bor}
use Rattle.stark_fri_proof.specs.Paths.{digests_of}
use Rattle.stark_fri.specs.Eights.{IsReadAt}
use Rattle.stark_fri.proofs.EightSteps.{mapped_more, read_here}
use Rattle.stark_fri.proofs.eights.layer_paths.Goals as goal

pub loop-i-preserved : goal.loop-i-preserved
loop-i-preserved g c =
    let paths = c.loop-i.paths in
    let queries = c.args.queries.now in
    let layer = c.args.layer in
    let i = c.loop-i.i in
    let query = c.index-queries-i.result in
    let long = c.loop-i.invariant.0 in
    let turn = c.loop-i-test.true in
    let read : ℕ → List (List ℕ) → Type 0 = IsReadAt (λ query. query.layers) (λ opened. digests_of opened.path) layer queries in
    let in_layers : layer < length query.layers = c.requires.layers i query turn c.index-queries-i.is in
    let here = read_here (λ query. query.layers) (λ opened. digests_of opened.path) layer queries i query c.index-layers-layer-in-loop-i.result _ (omega (arith, turn, c.requires.queries)) in_layers
    c.index-queries-i.is (c.index-layers-layer-in-loop-i.is ∙ ap (λ t. get_or t layer c.index-layers-layer-in-loop-i.result) c.layers-in-loop-i.ensures)
    (c.digests.ensures ∙ ap (λ l. digests_of l.path) (sym c.index-layers-layer-in-loop-i.is)) in (
      length-set paths i _ ∙ long,
      mapped_more (λ (path : Bor (List (List ℕ))). path.now) read paths i _ [] (omega (arith, long, turn)) c.loop-i.invariant.1 here,
    )

use Rattle.std.proofs.Common.{◌∙◌, ◌<◌, ℕ, List, [], ap, arith, get_or, length, length-set}
use Rattle.std.specs.Borrow.{Bor}
use Rattle.stark_fri_proof.specs.Paths.{digests_of}
use Rattle.stark_fri.specs.Eights.{IsReadAt}
use Rattle.stark_fri.proofs.EightSteps.{mapped_more, read_here}
use Rattle.stark_fri.proofs.eights.round_paths.Goals as goal

pub loop-i-preserved : goal.loop-i-preserved
loop-i-preserved g c =
    let paths = c.loop-i.paths in
    let queries = c.args.queries.now in
    let round = c.args.round in
    let i = c.loop-i.i in
    let query = c.index-queries-i.result in
    let long = c.loop-i.invariant.0 in
    let turn = c.loop-i-test.true in
    let read : ℕ → List (List ℕ) → Type 0 = IsReadAt (λ query. query.inputs) (λ input. digests_of input.path) round queries in
    let in_inputs : round < length query.inputs = c.requires.within i query turn c.index-queries-i.is in
    let here = read_here (λ query. query.inputs) (λ input. digests_of input.path) round queries i query c.index-inputs-round-in-loop-i.result _ (omega (arith, turn, c.requires.queries)) in_inputs
    c.index-queries-i.is (c.index-inputs-round-in-loop-i.is ∙ ap (λ t. get_or t round c.index-inputs-round-in-loop-i.result) c.inputs-in-loop-i.ensures)
    (c.digests.ensures ∙ ap digests_of c.path-in-loop-i.ensures) in (
      length-set paths i _ ∙ long,
      mapped_more (λ (path : Bor (List (List ℕ))). path.now) read paths i _ [] (omega (arith, long, turn)) c.loop-i.invariant.1 here,
    )

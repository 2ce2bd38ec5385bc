use Rattle.std.proofs.Common.{◌∙◌, ◌<◌, ℕ, List, [], ap, arith, get_or, length, length-set}
use Rattle.stark_merkle.specs.Tree.{items_of}
use Rattle.stark_fri.specs.Eights.{IsReadAt}
use Rattle.stark_fri.proofs.EightSteps.{mapped_more, read_here}
use Rattle.stark_fri.proofs.eights.write_round.Invariants.{fields_of}
use Rattle.stark_fri.proofs.eights.write_round.Goals as goal

pub loop-i-preserved : goal.loop-i-preserved
loop-i-preserved g c =
    let fields = fields_of g in
    let texts = c.loop-i.texts in
    let queries = c.args.queries.now in
    let round = c.args.round in
    let i = c.loop-i.i in
    let query = c.index-queries-i.result in
    let long = c.loop-i.invariant.0 in
    let turn = c.loop-i-test.true in
    let read : ℕ → List ℕ → Type 0 = IsReadAt (λ query. query.inputs) (λ input. fields.row_bytes input.rows) round queries in
    let in_inputs : round < length query.inputs = c.requires.within i query turn c.index-queries-i.is in
    let here = read_here (λ query. query.inputs) (λ input. fields.row_bytes input.rows) round queries i query c.index-inputs-round.result _ (omega (arith, turn, c.requires.queries)) in_inputs
    c.index-queries-i.is (c.index-inputs-round.is ∙ ap (λ t. get_or t round c.index-inputs-round.result) c.inputs.ensures)
    (c.in_ok-write_rows.ensures ∙ ap fields.row_bytes c.rows.ensures) in (
      length-set texts i _ ∙ long,
      mapped_more items_of read texts i _ [] (omega (arith, long, turn)) c.loop-i.invariant.1 here,
    )

use Rattle.std.proofs.Common.{◌≡◌, ◌+◌, ◌-◌, ◌<◌, ap, arith, length, map, subst, sym}
use Rattle.std.proofs.lemmas.List.{length-map}
use Rattle.stark_fri.specs.Query.{PairLeads, phase_root}
use Rattle.stark_fri.specs.Walks.{opening_of}
use Rattle.stark_fri.proofs.FoldSteps.{openings_end, openings_step}
use Rattle.stark_fri.proofs.EightSteps.{some_at}
use Rattle.stark_fri.proofs.WalkSteps.{mapped_place}
use Rattle.stark_fri.proofs.eights.eight_layers_lead.Invariants.{fields_of}
use Rattle.stark_fri.proofs.eights.eight_layers_lead.Goals as goal

pub loop-i-preserved : goal.loop-i-preserved
loop-i-preserved g c = λ j query walk low is_query is_walk.
    let fields = fields_of g in
    let hash = g.H.TreeHash.digests in
    let bits = c.args.bits in
    let phases = c.args.phases.now in
    let trees = map phase_root phases in
    let i = c.loop-i.i in
    let phase = c.index-phases-i.result in
    let turn = c.loop-i-test.true in
    let as_many : length trees ≡ length phases = length-map phases phase_root in
    let layers : length query.layers ≡ length phases = c.requires.layers j query low is_query in
    let pairs : length walk.pairs.items ≡ length phases = c.requires.pairs j walk low is_walk in
    let in_trees : i < length trees = omega (arith, turn, as_many) in
    let in_layers : i < length query.layers = omega (arith, turn, layers) in
    let in_pairs : i < length walk.pairs.items = omega (arith, turn, pairs) in
    let layer = some_at query.layers i in_layers in
    let pair = some_at walk.pairs.items i in_pairs in
    let leads = c.in_ok-eight_pairs_lead.ensures c.if-not-branch.false j query walk low is_query is_walk layer.0 pair.0 layer.1 pair.1 in
    openings_step fields (PairLeads hash) bits trees query.layers walk.pairs.items i (phase_root phase) layer.0 pair.0
    in_trees (mapped_place phase_root phases i phase turn c.index-phases-i.is) in_layers layer.1 in_pairs pair.1
    (subst (λ root. PairLeads hash (opening_of fields (bits - (i + 1)) root layer.0 pair.0)) (ap phase_root (sym c.index-phases-i.is)) leads) (c.loop-i.invariant j query walk low is_query is_walk)

pub returns : goal.returns
returns g c = λ yes j query walk low is_query is_walk.
    let trees = map phase_root c.args.phases.now in
    let ended = c.loop-i-test.false in
    openings_end (fields_of g) (PairLeads g.H.TreeHash.digests) c.args.bits trees query.layers walk.pairs.items c.loop-i.i
    (omega (arith, ended, length-map c.args.phases.now phase_root)) (c.loop-i.invariant j query walk low is_query is_walk)

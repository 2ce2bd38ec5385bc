use Rattle.std.proofs.Common.{◌∙◌, arith, map, sym}
use Rattle.std.proofs.lemmas.Bool.{false≢true}
use Rattle.std.proofs.lemmas.List.{length-map}
use Rattle.stark_fri.specs.Query.{PairLeads, phase_root}
use Rattle.stark_fri.proofs.FoldSteps.{layer_passed, layer_stops, openings_end}
use Rattle.stark_fri.proofs.folds.first_layer_fault.Invariants.{fields_of}
use Rattle.stark_fri.proofs.folds.first_layer_fault.Goals as goal

pub returns-then-not-is_path_to : goal.returns-then-not-is_path_to
returns-then-not-is_path_to g c =
    layer_stops (fields_of g) g.H.TreeHash.digests c.args.bits c.args.phases.now c.args.layers.now c.args.pairs.now c.requires.layers c.requires.pairs
    c.loop-i.i c.loop-i-test.true c.index-phases-i.result c.index-phases-i.is c.index-layers-i.result c.index-layers-i.is c.index-pairs-i.result c.index-pairs-i.is
    _ _ _ c.bytes-root.ensures (c.deref.ensures.value ∙ c.in_ok-bytes.ensures) c.digests-path.ensures c.is_path_to.result c.is_path_to.ensures
    (λ yes. false≢true (sym c.if-not-is_path_to.true ∙ yes)) c.loop-i.invariant.1

pub loop-i-preserved : goal.loop-i-preserved
loop-i-preserved g c =
    layer_passed (fields_of g) g.H.TreeHash.digests c.args.bits c.args.phases.now c.args.layers.now c.args.pairs.now c.requires.layers c.requires.pairs
    c.loop-i.i c.loop-i-test.true c.index-phases-i.result c.index-phases-i.is c.index-layers-i.result c.index-layers-i.is c.index-pairs-i.result c.index-pairs-i.is
    _ _ _ c.bytes-root.ensures (c.deref.ensures.value ∙ c.in_ok-bytes.ensures) c.digests-path.ensures c.is_path_to.result c.is_path_to.ensures
    c.if-not-is_path_to.false c.loop-i.invariant

pub returns : goal.returns
returns g c =
    let trees = map phase_root c.args.phases.now in
    let ended = c.loop-i-test.false in
    openings_end (fields_of g) (PairLeads g.H.TreeHash.digests) c.args.bits trees c.args.layers.now c.args.pairs.now c.loop-i.i
    (omega (arith, ended, length-map c.args.phases.now phase_root)) c.loop-i.invariant.0

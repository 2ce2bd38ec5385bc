use Rattle.std.proofs.Common.{◌≡◌, ◌∙◌, ap, length, map, subst, sym}
use Rattle.std.proofs.lemmas.Bool.{false≢true}
use Rattle.stark_fri.specs.Claims.{round_seen}
use Rattle.stark_fri.specs.Found.{FindsInputFault}
use Rattle.stark_fri.specs.Parts.{FriFields}
use Rattle.stark_fri.specs.Query.{batched_at, extension_coset}
use Rattle.stark_fri.specs.Walks.{FindsLayerFault}
use Rattle.stark_fri.proofs.FoldSteps.{pairs_count}
use Rattle.stark_fri.proofs.Members.{fields_by}
use Rattle.stark_fri.proofs.QuerySteps.{final_fails, layer_fails, query_holds}
use Rattle.stark_fri.proofs.query.query_fault.Given as given
use Rattle.stark_fri.proofs.query.query_fault.Goals as goal

abbrev fields_of : (g : given.Over) → FriFields g.row.D-Val.Denot g.row.EF.Denot
fields_of g = fields_by g.D.Val.TwoAdicField g.D.Val.Field g.D.Val.PrimeField64 g.EF.Field g.EF.ExtensionField

pub first_layer_fault-requires-clause-pairs : goal.first_layer_fault-requires-clause-pairs
first_layer_fault-requires-clause-pairs g c =
    let fields = fields_of g in
    let drawn = c.args.replayed.now.drawn.now in
    let rounds = map (round_seen g.D.PolynomialSpace.coset_of) c.args.replayed.now.claims.now in
    let query = c.args.query.now in
    let v = batched_at fields drawn.alpha c.args.replayed.now.bits rounds c.args.place query.inputs in
    let phases : length c.phases-phases.result.now ≡ length drawn.betas.items = ap length c.phases-phases.ensures ∙ sym c.requires.betas in
    let fits = c.query_fits.ensures.0 c.if-not-query_fits.false in
    ap length (c.deref.ensures.value ∙ c.in_ok-walk.ensures.0) ∙ pairs_count fields (extension_coset fields c.args.replayed.now.bits) c.args.place v drawn.betas.items query.layers (fits.1 ∙ phases) ∙ sym phases

pub returns-in-Some-fault : goal.returns-in-Some-fault
returns-in-Some-fault g c =
    let fields = fields_of g in
    let hash = g.H.TreeHash.digests in
    let rounds = map (round_seen g.D.PolynomialSpace.coset_of) c.args.replayed.now.claims.now in
    layer_fails fields hash rounds c.args.replayed.now.bits c.args.replayed.now.drawn.now c.args.replayed.now.proof.now c.args.place c.args.query.now c.phases-phases.result.now c.phases-phases.ensures
    (c.query_fits.ensures.0 c.if-not-query_fits.false) c.inputs-inputs.result.now c.inputs-inputs.ensures
    (subst (FindsInputFault fields hash c.args.replayed.now.bits c.args.place rounds c.inputs-inputs.result.now) c.in_default.is c.in_ok-round.ensures)
    c.in_ok-walk.walk c.in_ok-walk.ensures c.layers-layers.result.now c.layers-layers.ensures c.deref.result.now c.deref.ensures.value
    c.in-Some-fault.layer (subst (FindsLayerFault fields hash c.args.replayed.now.bits c.phases-phases.result.now c.layers-layers.result.now c.deref.result.now) c.in-Some-fault.is c.in_ok-fault.ensures)

pub returns-then-not-ends_well : goal.returns-then-not-ends_well
returns-then-not-ends_well g c =
    let fields = fields_of g in
    let hash = g.H.TreeHash.digests in
    let rounds = map (round_seen g.D.PolynomialSpace.coset_of) c.args.replayed.now.claims.now in
    final_fails fields hash rounds c.args.replayed.now.bits c.args.replayed.now.drawn.now c.args.replayed.now.proof.now c.args.place c.args.query.now c.phases-phases.result.now c.phases-phases.ensures
    (c.query_fits.ensures.0 c.if-not-query_fits.false) c.inputs-inputs.result.now c.inputs-inputs.ensures
    (subst (FindsInputFault fields hash c.args.replayed.now.bits c.args.place rounds c.inputs-inputs.result.now) c.in_default.is c.in_ok-round.ensures)
    c.in_ok-walk.walk c.in_ok-walk.ensures c.layers-layers.result.now c.layers-layers.ensures c.deref.result.now c.deref.ensures.value
    (subst (FindsLayerFault fields hash c.args.replayed.now.bits c.phases-phases.result.now c.layers-layers.result.now c.deref.result.now) c.in_default-fault.is c.in_ok-fault.ensures) (λ ends. false≢true (sym c.if-not-ends_well.true ∙ c.ends_well.ensures.1 ends))

pub returns : goal.returns
returns g c =
    let fields = fields_of g in
    let hash = g.H.TreeHash.digests in
    let rounds = map (round_seen g.D.PolynomialSpace.coset_of) c.args.replayed.now.claims.now in
    query_holds fields hash rounds c.args.replayed.now.bits c.args.replayed.now.drawn.now c.args.replayed.now.proof.now c.args.place c.args.query.now c.phases-phases.result.now c.phases-phases.ensures
    (c.query_fits.ensures.0 c.if-not-query_fits.false) c.inputs-inputs.result.now c.inputs-inputs.ensures
    (subst (FindsInputFault fields hash c.args.replayed.now.bits c.args.place rounds c.inputs-inputs.result.now) c.in_default.is c.in_ok-round.ensures)
    c.in_ok-walk.walk c.in_ok-walk.ensures c.layers-layers.result.now c.layers-layers.ensures c.deref.result.now c.deref.ensures.value
    (subst (FindsLayerFault fields hash c.args.replayed.now.bits c.phases-phases.result.now c.layers-layers.result.now c.deref.result.now) c.in_default-fault.is c.in_ok-fault.ensures) (c.ends_well.ensures.0 c.if-not-ends_well.false)

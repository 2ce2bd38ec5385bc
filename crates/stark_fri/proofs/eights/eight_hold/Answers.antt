use Rattle.std.proofs.Common.{◌≡◌, ◌∙◌, ◌<◌, ap, arith, length, map, slice_index_or, subst, sym}
use Rattle.std.specs.List.{AllByRecursion}
use Rattle.std.proofs.lemmas.List.{length-map}
use Rattle.stark_support.specs.Polynomial.{value}
use Rattle.stark_fri.specs.Claims.{round_seen}
use Rattle.stark_fri.specs.Found.{target_by}
use Rattle.stark_fri.specs.Parts.{FriFields}
use Rattle.stark_fri.specs.Query.{PairLeads, QueryHolds, batched_at, extension_coset, last_point, phase_root}
use Rattle.stark_fri.specs.Walks.{openings_of}
use Rattle.stark_fri.proofs.Members.{fields_by}
use Rattle.stark_fri.proofs.FoldSteps.{openings_are, pairs_count}
use Rattle.stark_fri.proofs.EightSteps.{all_of_eight, at_itself, placed_length, some_at}
use Rattle.stark_fri.proofs.eights.eight_hold.Given as given
use Rattle.stark_fri.proofs.eights.eight_hold.Goals as goal

abbrev fields_of : (g : given.Over) → FriFields g.row.D-Val.Denot g.row.EF.Denot
fields_of g = fields_by g.D.Val.TwoAdicField g.D.Val.Field g.D.Val.PrimeField64 g.EF.Field g.EF.ExtensionField

pub eight_inputs_lead-requires-clause-rounds : goal.eight_inputs_lead-requires-clause-rounds
eight_inputs_lead-requires-clause-rounds g c = λ j query low is_query.
    let seen = round_seen g.D.PolynomialSpace.coset_of in
    let fits = c.eight_fit.ensures c.if-not-eight_fit.false j query low is_query in
    placed_length _ (map seen c.args.replayed.now.claims.now) query.inputs fits.0 ∙ length-map c.args.replayed.now.claims.now seen

pub eight_layers_lead-requires-clause-pairs : goal.eight_layers_lead-requires-clause-pairs
eight_layers_lead-requires-clause-pairs g c = λ j walk low is_walk.
    let fields = fields_of g in
    let bits = c.args.replayed.now.bits in
    let drawn = c.args.replayed.now.drawn.now in
    let rounds = map (round_seen g.D.PolynomialSpace.coset_of) c.args.replayed.now.claims.now in
    let places = c.args.places.now in
    let queries = c.args.queries.now in
    let betas = drawn.betas.items in
    let in_places : j < length places = omega (arith, low, c.requires.places) in
    let in_queries : j < length queries = omega (arith, low, c.requires.queries) in
    let place = slice_index_or places j 0 in
    let query = some_at queries j in_queries in
    let fits = c.eight_fit.ensures c.if-not-eight_fit.false j query.0 low query.1 in
    let phases : length c.phases-phases.result.now ≡ length betas = ap length c.phases-phases.ensures ∙ sym c.requires.checkable.betas in
    let at : walk ≡ slice_index_or c.in_ok-walks.walks.items j walk = is_walk ∙ ap (λ t. slice_index_or t j walk) c.deref.ensures.value in
    let is = c.in_ok-walks.ensures.1 walk j low at place query.0 (at_itself places j 0 in_places) query.1 in
    ap length is.0 ∙ pairs_count fields (extension_coset fields bits) place (batched_at fields drawn.alpha bits rounds place query.0.inputs) betas query.0.layers (fits.1 ∙ phases) ∙ sym phases

pub returns : goal.returns
returns g c = λ yes.
    let fields = fields_of g in
    let hash = g.H.TreeHash.digests in
    let bits = c.args.replayed.now.bits in
    let drawn = c.args.replayed.now.drawn.now in
    let proof = c.args.replayed.now.proof.now in
    let rounds = map (round_seen g.D.PolynomialSpace.coset_of) c.args.replayed.now.claims.now in
    let target = target_by rounds bits drawn proof in
    let places = c.args.places.now in
    let queries = c.args.queries.now in
    let betas = drawn.betas.items in
    let trees = map phase_root proof.phases in
    let coset = extension_coset fields bits in
    let walks = c.in_ok-walks.walks.items in
    let folds : length proof.phases ≡ length trees = sym (length-map proof.phases phase_root) in
    let phases : length c.phases-phases.result.now ≡ length trees = ap length c.phases-phases.ensures ∙ folds in
    all_of_eight (QueryHolds fields hash target) places queries c.requires.places (λ j place query low is_place is_query.
    let walk = some_at walks j (omega (arith, low, c.in_ok-walks.ensures.0)) in
    let w = walk.0 in
    let is = c.in_ok-walks.ensures.1 w j low walk.1 place query is_place is_query in
    let fits = c.eight_fit.ensures c.if-not-eight_fit.false j query low is_query in
    let v = batched_at fields drawn.alpha bits rounds place query.inputs in
    let opened : openings_of fields bits (map phase_root c.phases-phases.result.now) query.layers w.pairs.items ≡ _
    = ap (λ t. openings_of fields bits (map phase_root t) query.layers w.pairs.items) c.phases-phases.ensures
    ∙ ap (λ t. openings_of fields bits trees query.layers t) is.0 ∙ openings_are fields coset place v trees betas query.layers in record {
      fits = (fits.0, fits.1 ∙ phases);
      inputs = c.in_ok-eight_inputs_lead.ensures c.if-not-branch.false j place query low is_place is_query;
      layers = subst (AllByRecursion (PairLeads hash)) opened
          (c.in_ok-eight_layers_lead.ensures c.if-not-branch-2.false j query w low is_query (walk.1 ∙ ap (λ t. slice_index_or t j w) (sym c.deref.ensures.value)));
      final = sym is.1 ∙ c.eight_end.ensures yes j place w low is_place (walk.1 ∙ ap (λ t. slice_index_or t j w) (sym c.deref-2.ensures.value))
          ∙ ap (λ n. value fields.ring proof.final_polynomial (last_point fields n coset place)) folds;
    })

use Rattle.std.proofs.Common.{slice_index, subst}
use Rattle.stark_merkle.specs.Tree.{LeadsTo}
use Rattle.stark_fri_proof.specs.Paths.{digests_of}
use Rattle.stark_fri.specs.Eights.{PairsLead}
use Rattle.stark_fri.proofs.Members.{fields_by}
use Rattle.stark_fri.proofs.eights.eight_pairs_lead.Goals as goal

pub returns : goal.returns
returns g c = λ lead.
    let fields = fields_by g.F.TwoAdicField g.F.Field g.F.PrimeField64 g.EF.Field g.EF.ExtensionField in
    let hash = g.H.TreeHash.digests in
    let depth = c.args.depth in
    let i = c.args.layer in
    let leads = c.eight_lead.ensures.0 lead in
    subst (λ root. PairsLead fields hash root depth i c.args.queries.now c.args.walks.now) c.bytes.ensures
    (λ j query walk low is_query is_walk layer pair is_layer is_pair.
    let root = c.bytes.result in
    let text = c.in_ok-write_layer.ensures j low walk pair is_walk is_pair in
    let place = c.pair_places-places.ensures j low walk pair is_walk is_pair in
    let path = c.layer_paths-paths.ensures j low query layer is_query is_layer in
    subst (λ p. LeadsTo hash root depth p (fields.pair_bytes pair.low pair.high) (digests_of layer.path)) place
    (subst (λ t. LeadsTo hash root depth (slice_index c.pair_places-places.result j) t (digests_of layer.path)) text
    (subst (LeadsTo hash root depth (slice_index c.pair_places-places.result j) _) path (leads j low))))

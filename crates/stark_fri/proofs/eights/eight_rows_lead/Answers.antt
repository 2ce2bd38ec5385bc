use Rattle.std.proofs.Common.{◌≡◌, ◌∙◌, ◌<◌, ap, arith, length, slice_index, subst}
use Rattle.stark_merkle.specs.Tree.{LeadsTo}
use Rattle.stark_fri_proof.specs.Paths.{digests_of}
use Rattle.stark_fri.specs.Eights.{RowsLead}
use Rattle.stark_fri.proofs.Members.{fields_by}
use Rattle.stark_fri.proofs.EightSteps.{at_itself, same_at}
use Rattle.stark_fri.proofs.eights.eight_rows_lead.Goals as goal

pub returns : goal.returns
returns g c = λ lead.
    let fields = fields_by g.F.TwoAdicField g.F.Field g.F.PrimeField64 g.EF.Field g.EF.ExtensionField in
    let hash = g.H.TreeHash.digests in
    let bits = c.args.bits in
    let round = c.args.round in
    let places = c.args.places.now in
    let queries = c.args.queries.now in
    let leads = c.eight_lead.ensures.0 lead in
    subst (λ root. RowsLead fields hash root bits round places queries) c.bytes.ensures
    (λ j place query low is_place is_query input is_input.
    let in_places : j < length places = omega (arith, low, c.requires.places) in
    let text = c.in_ok-write_round.ensures j low query input is_query is_input in
    let path = c.round_paths-paths.ensures j low query input is_query is_input in
    let indices = c.copy_from_slice.new.self in
    let here : slice_index indices j ≡ place
    = ap (λ ps. slice_index ps j) c.copy_from_slice.ensures.after ∙ same_at places j (slice_index places j) place in_places (at_itself places j 0 in_places) is_place in
    subst (λ p. LeadsTo hash c.bytes.result bits p (fields.row_bytes input.rows) (digests_of input.path)) here
    (subst (λ t. LeadsTo hash c.bytes.result bits (slice_index indices j) t (digests_of input.path)) text
    (subst (LeadsTo hash c.bytes.result bits (slice_index indices j) _) path (leads j low))))

use Rattle.std.proofs.Common.{◌≡◌, ◌≢◌, ◌∙◌, ◌^◌, ap, map, subst, sym}
use Rattle.std.specs.List.{AllByRecursion}
use Rattle.stark_support.specs.Coset.{coset_point}
use Rattle.stark_folding.specs.Reduce.{Seen, reduced_at}
use Rattle.stark_folding.proofs.Steps.{embedded_point}
use Rattle.stark_fri.specs.Claims.{round_seen}
use Rattle.stark_fri.specs.Parts.{FriFields}
use Rattle.stark_fri.specs.Query.{extension_coset, extension_root}
use Rattle.stark_fri.proofs.Members.{fields_by}
use Rattle.stark_fri.proofs.PointSteps.{all_apart, apart_from_rows}
use Rattle.stark_fri.proofs.seen.batched_value.Given as given
use Rattle.stark_fri.proofs.seen.batched_value.Goals as goal

abbrev fields_of : (g : given.Over) → FriFields g.row.D-Val.Denot g.row.EF.Denot
fields_of g = fields_by g.D.Val.TwoAdicField g.D.Val.Field g.D.Val.PrimeField64 g.EF.Field g.EF.ExtensionField

pub reduce_claims-requires : goal.reduce_claims-requires
reduce_claims-requires g c =
    let fields = fields_of g in
    let bits = c.args.bits in
    let x = c.from_base.result in
    let is : x ≡ fields.embed (coset_point fields.base fields.root (record { shift = fields.generator; log_size = bits }) c.args.place)
    = c.from_base.ensures ∙ ap fields.embed (c.point_at-point.ensures ∙ ap (λ s. coset_point fields.base fields.root (record { shift = s; log_size = bits }) c.args.place) c.GENERATOR.ensures) in
    subst (AllByRecursion (λ (s : Seen g.row.EF.Denot). x ≢ s.2)) (sym (c.deref.ensures.value ∙ c.in_ok-seen.ensures))
    (all_apart fields x (2 ^ bits) (apart_from_rows fields g.met.D.Val.Field.field_laws g.met.D.Val.TwoAdicField.two_adic g.met.EF.ExtensionField.embeds bits c.args.place c.requires.within x is)
    (map (round_seen g.D.PolynomialSpace.coset_of) c.args.claims.now) c.args.inputs.now c.requires.off)

pub returns : goal.returns
returns g c =
    let fields = fields_of g in
    let bits = c.args.bits in
    let alpha = c.args.alpha in
    let x = coset_point fields.ring (extension_root fields) (extension_coset fields bits) c.args.place in
    let is : c.from_base.result ≡ x
    = c.from_base.ensures ∙ ap fields.embed (c.point_at-point.ensures ∙ ap (λ s. coset_point fields.base fields.root (record { shift = s; log_size = bits }) c.args.place) c.GENERATOR.ensures)
    ∙ embedded_point g.met.EF.ExtensionField.embeds fields.generator (fields.root bits) c.args.place in
    c.reduce_claims.ensures ∙ ap (λ t. reduced_at fields.ring fields.inverse alpha t c.deref.result.now) is
    ∙ ap (reduced_at fields.ring fields.inverse alpha x) (c.deref.ensures.value ∙ c.in_ok-seen.ensures)

use Rattle.std.proofs.Common.{◌^◌, ◌∙◌, ap, sym}
use Rattle.stark_support.specs.Ring.{difference}
use Rattle.stark_support.specs.Coset.{subgroup_vanishing}
use Rattle.stark_support.specs.SelectorFacts.{first_is_quotient, last_is_quotient, not_first_point, not_last_point}
use Rattle.stark_support.specs.Subgroup.{group_of}
use Rattle.stark_bench.proofs.coset.group_selectors.Goals as goal

pub inverse-requires : goal.inverse-requires
inverse-requires g c = c.requires.group.generator_nonzero

pub inverse-requires-2 : goal.inverse-requires-2
inverse-requires-2 g c = λ e.
    let field = g.met.E.Field in
    not_first_point field.field_laws (group_of g.E.Field.inverse_of c.args.generator c.args.log_size) c.requires.group c.args.point c.requires.outside
    (sym (field.sub_is _ _ _ c.sub.ensures ∙ ap (difference g.E.Field.ring c.args.point) (c.ONE.ensures ∙ field.one_is)) ∙ e)

pub inverse-requires-3 : goal.inverse-requires-3
inverse-requires-3 g c = λ e.
    let field = g.met.E.Field in
    not_last_point field.field_laws (group_of g.E.Field.inverse_of c.args.generator c.args.log_size) c.requires.group c.args.point c.requires.outside
    (sym (field.sub_is _ _ _ c.sub-transition.ensures ∙ ap (difference g.E.Field.ring c.args.point) c.inverse.ensures) ∙ e)

pub returns-clause-first_row : goal.returns-clause-first_row
returns-clause-first_row g c =
    let field = g.met.E.Field in
    let ring = g.E.Field.ring in
    field.mul_is _ _ _ c.mul.ensures ∙ ap (λ w. ring.mul w c.inverse-2.result) c.subgroup_vanishing-vanishing.ensures ∙
    ap (λ w. ring.mul (subgroup_vanishing ring (2 ^ c.args.log_size) c.args.point) w)
    (c.inverse-2.ensures ∙ ap g.E.Field.inverse_of (field.sub_is _ _ _ c.sub.ensures ∙ ap (difference ring c.args.point) (c.ONE.ensures ∙ field.one_is))) ∙
    first_is_quotient field.field_laws (group_of g.E.Field.inverse_of c.args.generator c.args.log_size) c.requires.group c.args.point c.requires.outside

pub returns-clause-last_row : goal.returns-clause-last_row
returns-clause-last_row g c =
    let field = g.met.E.Field in
    let ring = g.E.Field.ring in
    field.mul_is _ _ _ c.mul-2.ensures ∙ ap (λ w. ring.mul w c.inverse-3.result) c.subgroup_vanishing-vanishing.ensures ∙
    ap (λ w. ring.mul (subgroup_vanishing ring (2 ^ c.args.log_size) c.args.point) w)
    (c.inverse-3.ensures ∙ ap g.E.Field.inverse_of (field.sub_is _ _ _ c.sub-transition.ensures ∙ ap (difference ring c.args.point) c.inverse.ensures)) ∙
    last_is_quotient field.field_laws (group_of g.E.Field.inverse_of c.args.generator c.args.log_size) c.requires.group c.args.point c.requires.outside

use Rattle.std.proofs.Common.{◌≡◌, ◌<◌, ◌/◌, ◌^◌, length, refl, sym, ◌∙◌, subst}
use Rattle.stark_support.specs.SchemeFacts.{rows_again}
use Rattle.parts_tests.proofs.clear_scheme.read_back.Goals as goal

pub returns : goal.returns
returns g c r below =
    let log = c.requires.power.0 in
    let is : 2 ^ log ≡ length c.args.matrix.values.items / c.args.matrix.width = sym c.requires.power.1 in
    let made = c.in_ok-_commitment.ensures.stands in
    rows_again _ _ _ _ _ _ _ _ _
    (c.natural_domain_for_degree-domain.ensures.natural log (is ∙ sym c.height.ensures))
    (made.2 log is)
    (c.in_ok-rows.ensures c.in_ok-_commitment._commitment _ _ made.1 refl)
    r (subst (λ n. r < n) (sym is) below)

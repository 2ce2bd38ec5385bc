use Rattle.std.proofs.Common.{◌≡◌, ◌∙◌, ◌+◌, ◌-◌, ◌*◌, ◌%◌, ◌^◌, ◌<◌, ap, arith, length, subst, sym}
use Rattle.std.proofs.lemmas.Nat.{one_shl}
use Rattle.stark_support.specs.Coset.{AreValuesOn}
use Rattle.stark_support.specs.LogarithmFacts.{two_power_at_most}
use Rattle.stark_support.specs.Polynomial.{value}
use Rattle.stark_dft.proofs.PeriodicSteps.{at_most_either, either_max, picked_values, place_within}
use Rattle.stark_dft.proofs.periodic.values_on_part.Goals as goal

pub evaluate_on_coset-requires-clause-room : goal.evaluate_on_coset-requires-clause-room
evaluate_on_coset-requires-clause-room g c =
    let bounds = either_max c.args.log_size c.args.log_degree c.max-log_whole.result c.max-log_whole.ensures in
    omega (arith, c.requires.room, two_power_at_most c.args.log_degree c.max-log_whole.result bounds.1)

pub picked_rows-requires : goal.picked_rows-requires
picked_rows-requires g c = λ k r inside below.
    let l = c.args.log_size in
    let w = c.max-log_whole.result in
    let adicity = g.F.TwoAdicField.TWO_ADICITY in
    let bounds = either_max l c.args.log_degree w c.max-log_whole.ensures in
    let bounded = g.met.F.TwoAdicField.two_adic.bounded in
    let within = at_most_either l c.args.log_degree w adicity c.requires.size c.requires.degree bounds.2 in
    let small : r < 2 ^ l = subst (λ n. r < n) (one_shl l 64 (omega (arith, bounded, c.requires.size))) below in
    let place = place_within l w r bounds.0 small in
    let there : 0 + k + r * (1 * 2 ^ (w - l) % 2 ^ 64) ≡ r * 2 ^ (w - l) =
    (let plain : 0 + k + r * (1 * 2 ^ (w - l) % 2 ^ 64) ≡ r * (1 * 2 ^ (w - l) % 2 ^ 64) = omega arith in plain ∙ ap (λ n. r * n) (one_shl (w - l) 64 (omega (arith, bounded, within)))) in
    let whole : length c.deref.result.now ≡ 2 ^ w = ap length c.deref.ensures.value ∙ c.in_ok-whole.ensures.number in
    subst (λ n. n < length c.deref.result.now) (sym there) (subst (λ n. r * 2 ^ (w - l) < n) (sym whole) place)

pub returns : goal.returns
returns g c =
    let ring = g.F.Field.ring in
    let l = c.args.log_size in
    let w = c.max-log_whole.result in
    let adicity = g.F.TwoAdicField.TWO_ADICITY in
    let root = g.F.TwoAdicField.root in
    let bounds = either_max l c.args.log_degree w c.max-log_whole.ensures in
    let bounded = g.met.F.TwoAdicField.two_adic.bounded in
    let within = at_most_either l c.args.log_degree w adicity c.requires.size c.requires.degree bounds.2 in
    picked_values g.met.F.Field.field_laws adicity root g.F.Field.GENERATOR g.met.F.TwoAdicField.two_adic c.args.shift l w (1 * 2 ^ (w - l) % 2 ^ 64) (1 * 2 ^ l % 2 ^ 64)
    c.args.coefficients.now c.deref.result.now c.in_ok-values.values.items bounds.0 within (one_shl (w - l) 64 (omega (arith, bounded, within))) (one_shl l 64 (omega (arith, bounded, c.requires.size)))
    (subst (λ t. AreValuesOn ring root (record { shift = c.args.shift; log_size = w }) (2 ^ w) (value ring c.args.coefficients.now) t) (sym c.deref.ensures.value) c.in_ok-whole.ensures)
    c.in_ok-values.ensures

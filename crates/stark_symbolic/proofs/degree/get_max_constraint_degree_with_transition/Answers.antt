use Rattle.std.proofs.Common.{◌∙◌, ◌-◌, ◌^◌, ap, rules, sym, unwrap_or}
use Rattle.stark_symbolic.specs.Fitting.{fitting, saturated_fits}
use Rattle.stark_symbolic.specs.LeafDegrees.{greatest_degree_by, greatest_is_saturated, trace_multiples}
use Rattle.stark_symbolic.proofs.degree.get_max_constraint_degree_with_transition.Goals as goal

pub returns : goal.returns
returns g c =
    let d = c.args.transition_degree in
    let cs = g.A.Air.constraints c.args.air.now in
    c.unwrap_or.ensures ∙
    ap (λ x. unwrap_or x (2 ^ 64 - 1)) (c.in_ok-degrees.ensures.first ∙ ap (λ leaves. fitting (greatest_degree_by leaves cs)) c.trace_multiples-multiples.ensures) ∙
    saturated_fits (greatest_degree_by (trace_multiples d) cs) ∙
    sym (greatest_is_saturated d c.ranges.transition_degree.fits cs)

pub returns-in_err-degrees : goal.returns-in_err-degrees
returns-in_err-degrees g c = search rules

use Rattle.std.proofs.Common.{◌≤◌, ◌^◌, ap, subst, ℕ, max, unwrap_or}
use Rattle.stark_parts.specs.Sizing.{quotient_multiple}
use Rattle.stark_parts.proofs.SizingSteps.{sized_enough}
use Rattle.stark_parts.proofs.symbolic.get_log_num_quotient_chunks_for_domain.Goals as goal

pub returns-clause-enough : goal.returns-clause-enough
returns-clause-enough g c sizable height =
    let hint = g.A.BaseAir.degree_hint c.args.air.now in
    let log = c.get_log_num_quotient_chunks_for_degree.result in
    sized_enough (g.A.Air.constraints c.args.air.now) sizable hint height log c.transition_degree_multiple-transition_degree.result c.args.is_zk c.requires.flag
    (subst (λ (degree : ℕ). quotient_multiple degree c.args.is_zk ≤ 2 ^ log)
    (ap (λ (degree : ℕ). max degree (unwrap_or hint 0)) c.in_ok-degree.ensures) c.get_log_num_quotient_chunks_for_degree.ensures.covers)

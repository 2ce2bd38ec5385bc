use Rattle.std.proofs.Common.{◌≡◌, ◌∙◌, ◌-◌, ap, sym}
use Rattle.stark_security.specs.DegreeBound.{alpha_bound}
use Rattle.stark_security.proofs.BoundSteps.{counts_answered}
use Rattle.stark_security.proofs.ErrorBoundSteps.{bound_answered, no_bound_answered, answered_counts}
use Rattle.stark_security.proofs.bounds.ood_error_bound.Goals as goal

pub returns-in-Some-clause-exact : goal.returns-in-Some-clause-exact
returns-in-Some-clause-exact g c =
    let cs = g.A.Air.constraints c.args.air.now in
    let hint = g.A.BaseAir.degree_hint c.args.air.now in
    let counts = counts_answered cs hint c.args.degree_bits c.args.is_zk c.get_log_num_quotient_chunks_for_degree-log_parts.result c.unwrap_or-degree.result c.trace_multiples-multiples.result c.bound_leaves-bounds.result c.in_ok-degrees.degrees.first c.in_ok-degrees.degrees.second c.recomposed_bound.result c.greater.result c.trace_multiples-multiples.ensures c.in_ok-degrees.ensures.first c.unwrap_or-degree.ensures c.get_log_num_quotient_chunks_for_degree-log_parts.ensures c.requires.masked c.bound_leaves-bounds.ensures c.in_ok-degrees.ensures.second c.recomposed_bound.ensures c.greater.ensures in
    let alphas : c.saturating_sub.result ≡ alpha_bound cs = c.saturating_sub.ensures ∙ ap (λ n. n - 1) c.in_ok-degrees.ensures.num_constraints in
    bound_answered cs hint c.args.degree_bits c.args.is_zk c.get_log_num_quotient_chunks_for_degree-log_parts.result counts.0 c.saturating_sub.result c.in-Some.zetas alphas (sym c.in-Some.is ∙ counts.1)

pub returns-in-Some-clause-counts : goal.returns-in-Some-clause-counts
returns-in-Some-clause-counts g c = λ generator chunks order count.
    let cs = g.A.Air.constraints c.args.air.now in
    let hint = g.A.BaseAir.degree_hint c.args.air.now in
    let counts = counts_answered cs hint c.args.degree_bits c.args.is_zk c.get_log_num_quotient_chunks_for_degree-log_parts.result c.unwrap_or-degree.result c.trace_multiples-multiples.result c.bound_leaves-bounds.result c.in_ok-degrees.degrees.first c.in_ok-degrees.degrees.second c.recomposed_bound.result c.greater.result c.trace_multiples-multiples.ensures c.in_ok-degrees.ensures.first c.unwrap_or-degree.ensures c.get_log_num_quotient_chunks_for_degree-log_parts.ensures c.requires.masked c.bound_leaves-bounds.ensures c.in_ok-degrees.ensures.second c.recomposed_bound.ensures c.greater.ensures in
    let alphas : c.saturating_sub.result ≡ alpha_bound cs = c.saturating_sub.ensures ∙ ap (λ n. n - 1) c.in_ok-degrees.ensures.num_constraints in
    answered_counts cs hint c.args.degree_bits c.args.is_zk c.get_log_num_quotient_chunks_for_degree-log_parts.result counts.0 g.F.Field.inverse_of g.met.EF.Field.field_laws g.met.EF.ExtensionField.embeds
    g.EF.ExtensionField.basis generator order (g.A.BaseAir.periodic_columns c.args.air.now) chunks c.saturating_sub.result c.in-Some.zetas count alphas (sym c.in-Some.is ∙ counts.1)

pub returns-in-None-clause-exact : goal.returns-in-None-clause-exact
returns-in-None-clause-exact g c =
    let cs = g.A.Air.constraints c.args.air.now in
    let hint = g.A.BaseAir.degree_hint c.args.air.now in
    let counts = counts_answered cs hint c.args.degree_bits c.args.is_zk c.get_log_num_quotient_chunks_for_degree-log_parts.result c.unwrap_or-degree.result c.trace_multiples-multiples.result c.bound_leaves-bounds.result c.in_ok-degrees.degrees.first c.in_ok-degrees.degrees.second c.recomposed_bound.result c.greater.result c.trace_multiples-multiples.ensures c.in_ok-degrees.ensures.first c.unwrap_or-degree.ensures c.get_log_num_quotient_chunks_for_degree-log_parts.ensures c.requires.masked c.bound_leaves-bounds.ensures c.in_ok-degrees.ensures.second c.recomposed_bound.ensures c.greater.ensures in
    no_bound_answered cs hint c.args.degree_bits c.args.is_zk c.get_log_num_quotient_chunks_for_degree-log_parts.result counts.0 (sym c.in-None.is ∙ counts.1)

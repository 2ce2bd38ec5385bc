use Rattle.std.proofs.Common.{◌≡◌, ◌∙◌, ◌-◌, ap, sym}
use Rattle.stark_security.specs.DegreeBound.{alpha_bound}
use Rattle.stark_fri_security.proofs.ErrorSteps.{answered_counts, bound_answered, no_bound_above, no_bound_answered, zetas_answered}
use Rattle.stark_fri_security.proofs.errors.fri_error_bound.Goals as goal

pub returns-in-Some-clause-exact : goal.returns-in-Some-clause-exact
returns-in-Some-clause-exact g c =
    let cs = g.A.Air.constraints c.args.air.now in
    let hint = g.A.BaseAir.degree_hint c.args.air.now in
    let fits = zetas_answered cs hint c.args.log_height c.in_ok-log_chunks.log_chunks c.in_ok-log_chunks.ensures c.leaves_of-leaves.result c.in_ok-degrees.degrees.second c.recomposed_bound.result c.greater.result c.leaves_of-leaves.ensures c.in_ok-degrees.ensures.second c.recomposed_bound.ensures c.greater.ensures in
    let alphas : c.saturating_sub.result ≡ alpha_bound cs = c.saturating_sub.ensures ∙ ap (λ n. n - 1) c.in_ok-degrees.ensures.num_constraints in
    bound_answered cs hint c.args.log_height c.in_ok-log_chunks.log_chunks c.in_ok-log_chunks.ensures c.saturating_sub.result c.in-Some.zetas alphas (sym c.in-Some.is ∙ fits)

pub returns-in-Some-clause-counts : goal.returns-in-Some-clause-counts
returns-in-Some-clause-counts g c = λ generator chunks order count.
    let cs = g.A.Air.constraints c.args.air.now in
    let hint = g.A.BaseAir.degree_hint c.args.air.now in
    let fits = zetas_answered cs hint c.args.log_height c.in_ok-log_chunks.log_chunks c.in_ok-log_chunks.ensures c.leaves_of-leaves.result c.in_ok-degrees.degrees.second c.recomposed_bound.result c.greater.result c.leaves_of-leaves.ensures c.in_ok-degrees.ensures.second c.recomposed_bound.ensures c.greater.ensures in
    let alphas : c.saturating_sub.result ≡ alpha_bound cs = c.saturating_sub.ensures ∙ ap (λ n. n - 1) c.in_ok-degrees.ensures.num_constraints in
    answered_counts cs hint c.args.log_height c.in_ok-log_chunks.log_chunks c.in_ok-log_chunks.ensures g.F.Field.inverse_of g.met.EF.Field.field_laws g.met.EF.ExtensionField.embeds
    g.EF.ExtensionField.basis generator order (g.A.BaseAir.periodic_columns c.args.air.now) chunks c.saturating_sub.result c.in-Some.zetas count alphas (sym c.in-Some.is ∙ fits)

pub returns-in-None-clause-exact : goal.returns-in-None-clause-exact
returns-in-None-clause-exact g c =
    let cs = g.A.Air.constraints c.args.air.now in
    let hint = g.A.BaseAir.degree_hint c.args.air.now in
    let fits = zetas_answered cs hint c.args.log_height c.in_ok-log_chunks.log_chunks c.in_ok-log_chunks.ensures c.leaves_of-leaves.result c.in_ok-degrees.degrees.second c.recomposed_bound.result c.greater.result c.leaves_of-leaves.ensures c.in_ok-degrees.ensures.second c.recomposed_bound.ensures c.greater.ensures in
    no_bound_answered cs hint c.args.log_height c.in_ok-log_chunks.log_chunks c.in_ok-log_chunks.ensures (sym c.in-None.is ∙ fits)

pub returns-then-log_height-gt63-clause-exact : goal.returns-then-log_height-gt63-clause-exact
returns-then-log_height-gt63-clause-exact g c =
    no_bound_above (g.A.Air.constraints c.args.air.now) (g.A.BaseAir.degree_hint c.args.air.now) c.args.log_height c.in_ok-log_chunks.log_chunks c.in_ok-log_chunks.ensures c.if-log_height-gt63.true

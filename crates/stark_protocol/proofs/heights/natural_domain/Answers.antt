use Rattle.std.proofs.Common.{sym, arith, subst, ◌≤◌}
use Rattle.stark_support.specs.LogarithmFacts.{two_power_at_most}
use Rattle.stark_protocol.proofs.heights.natural_domain.Goals as goal

pub natural_domain_for_degree-requires-clause-power : goal.natural_domain_for_degree-requires-clause-power
natural_domain_for_degree-requires-clause-power g c = (c.args.log_size, c.power_of_two.ensures)

pub natural_domain_for_degree-requires-clause-within : goal.natural_domain_for_degree-requires-clause-within
natural_domain_for_degree-requires-clause-within g c =
    let within = subst (λ s. c.args.log_size ≤ g.SC.Pcs.Pcs.scheme.log_max_trace_height s) (sym c.pcs.ensures) c.requires.within in
    omega (arith, c.power_of_two.ensures, two_power_at_most c.args.log_size _ within)

pub returns : goal.returns
returns g c = c.natural_domain_for_degree.ensures.natural c.args.log_size (sym c.power_of_two.ensures)

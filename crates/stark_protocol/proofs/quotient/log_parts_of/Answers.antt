use Rattle.stark_protocol.specs.QuotientFacts.{log_parts_is, log_parts_within}
use Rattle.stark_protocol.proofs.quotient.log_parts_of.Goals as goal

pub returns-clause-parts : goal.returns-clause-parts
returns-clause-parts g c = log_parts_is _ _ c.in_ok-log.log _ c.args.is_zk (g.met.D.PolynomialSpace.transition_adds_nothing c.args.domain.now) c.in_ok-log.ensures.log

pub returns-clause-bound : goal.returns-clause-bound
returns-clause-bound g c = log_parts_within c.in_ok-log.log _ c.args.is_zk c.in_ok-log.ensures.log

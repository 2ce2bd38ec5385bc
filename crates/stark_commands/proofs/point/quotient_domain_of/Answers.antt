use Rattle.std.proofs.Common.{◌+◌, ◌^◌, refl}
use Rattle.stark_protocol.specs.QuotientFacts.{size_of_sum}
use Rattle.stark_commands.proofs.Parts.{domain_if_some, none_of_size}
use Rattle.stark_commands.proofs.point.quotient_domain_of.Goals as goal

pub returns-clause-domain : goal.returns-clause-domain
returns-clause-domain g c =
    domain_if_some g.D.PolynomialSpace.coset_of g.D.Val.Field.ring g.D.Val.Field.GENERATOR (g.D.PolynomialSpace.coset_of c.args.trace_domain.now) c.args.log_height c.args.log_chunks c.in_ok-_log_size.size
    c.try_create_disjoint_domain.result c.requires (size_of_sum (c.args.log_height + c.args.log_chunks) (c.in_ok-_log_size._log_size, c.in_ok-_log_size.size) (c.args.log_height + c.args.log_chunks, 2 ^ (c.args.log_height + c.args.log_chunks)) refl c.in_ok-_log_size.ensures.fits c.in_ok-_log_size.ensures.other).1
    c.try_create_disjoint_domain.ensures.shift c.try_create_disjoint_domain.ensures.size

pub returns-clause-none : goal.returns-clause-none
returns-clause-none g c =
    none_of_size g.D.Val.TwoAdicField.TWO_ADICITY _ c.in_ok-_log_size.size _ (size_of_sum (c.args.log_height + c.args.log_chunks) (c.in_ok-_log_size._log_size, c.in_ok-_log_size.size) (c.args.log_height + c.args.log_chunks, 2 ^ (c.args.log_height + c.args.log_chunks)) refl c.in_ok-_log_size.ensures.fits c.in_ok-_log_size.ensures.other).1
    c.try_create_disjoint_domain.ensures.none
